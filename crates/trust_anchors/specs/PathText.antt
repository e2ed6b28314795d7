-- The text of a path, and the line that reports it.
use Rattle.std.specs.Prelude.{ℕ, List, [], ◌∷◌, ◌++◌, codes, decimal}
use Rattle.sig_core.specs.VerdictTable.{newline}
use Rattle.x509_core.specs.PlacesText.{places_text}
use Rattle.trust_anchors.specs.declared.path.AnchoredPath.{AnchoredPath}

-- pool=P,P anchor=A
abbrev pub path_text : AnchoredPath → List ℕ
path_text path =
    codes "pool=" ++ places_text path.pool ++ codes " anchor=" ++ decimal path.anchor

-- anchored pool=P,P anchor=A
abbrev pub anchored_line : AnchoredPath → List ℕ
anchored_line path = codes "anchored " ++ path_text path ++ newline ∷ []
