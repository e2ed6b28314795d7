-- The text of what is reported of an accepted signature.
use Rattle.std.specs.Prelude.{ℕ, List, [], ◌++◌, Option, Some, None, codes, decimal}
use Rattle.x509_core.specs.PlacesText.{places_text}
use Rattle.authenticode_core.specs.declared.accepted.Accepted.{Accepted}
use Rattle.authenticode_core.specs.declared.accepted.Excuse.{Excuse}
use Rattle.authenticode_core.specs.declared.accepted.Excuse.TheVariants as excuses

-- the word for an excuse
abbrev pub excuse_word : Excuse → List ℕ
excuse_word excuses.None = codes "none"
excuse_word excuses.Bag = codes "bag"
excuse_word excuses.Token = codes "token"

-- an index, in decimal, or nothing
abbrev pub place_text : Option ℕ → List ℕ
place_text (Some place) = decimal place
place_text None = []

-- signer=S path=P,P excuse=E
abbrev pub accepted_text : Accepted → List ℕ
accepted_text accepted =
    codes "signer=" ++ place_text accepted.signer
    ++ codes " path=" ++ places_text accepted.path
    ++ codes " excuse=" ++ excuse_word accepted.excuse
