-- Object identifiers: arcs, their contents octets and their dotted text (X.690 8.19, RFC 4512 1.4).
use Rattle.std.specs.Prelude.{◌≡◌, ⊤, ℕ, ◌+◌, ◌*◌, ◌<◌, ◌≤◌, List, [], ◌∷◌, map}
use Rattle.std.specs.List.{AllByRecursion, flat_map, join_with_byte}
use Rattle.std.specs.Fmt.{decimal}
use Rattle.asn1_types.specs.declared.error.TextError.{TextError}
use Rattle.asn1_types.specs.declared.error.TextError.TheVariants.{BadText, Memory}
use Rattle.asn1_types.specs.Subidentifier.{IsSubidentifier, subidentifier}

-- The numbers in the subidentifiers of arcs: the first two arcs share one (X.690 8.19.4).
abbrev pub subidentifiers_of : List ℕ → List ℕ
subidentifiers_of [] = []
subidentifiers_of (first ∷ []) = []
subidentifiers_of (first ∷ second ∷ more) = (40 * first + second) ∷ more

-- The first two arcs: the first is at most 2, the second at most 39 under a first of 0 or 1 (X.690
-- 8.19.4), and the number that they make is within limits.
pub record IsRoot (first second : ℕ) : Type 0 where
  pub first_low : first ≤ 2
  pub second_low : first < 2 → second ≤ 39
  pub bounded : IsSubidentifier (40 * first + second)

-- The arcs of an OID: at least two, each number of the subidentifiers within limits.
abbrev pub IsArcs : List ℕ → Type 0
IsArcs [] = ⊥
IsArcs (first ∷ []) = ⊥
IsArcs (first ∷ second ∷ more) = IsRoot first second × AllByRecursion IsSubidentifier more

-- The contents octets of arcs: their subidentifiers in order (X.690 8.19.2).
abbrev pub contents_of : List ℕ → List ℕ
contents_of arcs = flat_map subidentifier (subidentifiers_of arcs)

-- The octet between two arcs in a text.
abbrev pub dot : ℕ
dot = 46

-- The text of arcs: their decimal digits, joined by dots.
abbrev pub dotted : List ℕ → List ℕ
dotted arcs = join_with_byte dot (map decimal arcs)

-- Octets are the contents octets of an OID if they are those of arcs.
pub record IsIdentifier (contents : List ℕ) : Type 0 where
  pub arcs : List ℕ
  pub are_arcs : IsArcs arcs
  pub spelled : contents ≡ contents_of arcs

-- The text is that of an OID's arcs.
pub record IsDottedText (text : List ℕ) : Type 0 where
  pub arcs : List ℕ
  pub are_arcs : IsArcs arcs
  pub printed : text ≡ dotted arcs

-- The error is `BadText`, for a text that isn't an OID's, or out of memory.
abbrev pub RefusesText : Type 0 → TextError → Type 0
RefusesText formed BadText = formed → ⊥
RefusesText formed Memory = ⊤
