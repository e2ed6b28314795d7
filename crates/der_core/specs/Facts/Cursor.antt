-- That octets were tested has at most one proof.
use Rattle.std.specs.Prelude.{◌≡◌, ℕ, ◌-◌, List}
use Rattle.std.specs.Coded.{×_prop, le_prop}
use Rattle.std.proofs.Common.{sym, ap, ◌∙◌}
use mathlib.Core.HLevel.{Σ_prop_path}
use Rattle.der_core.specs.DerElement.{DerElements}
use Rattle.der_core.specs.Encoding.{encodings, most_levels}
use Rattle.der_core.specs.Facts.Fronts.{same_kids}
use Rattle.der_core.specs.Facts.InBounds.{octets-set, AreWellFormed-prop, AreShort-prop}
use Rattle.der_core.specs.Reading.{AreDerWithin, HasElementsWithin}
use Rattle.der_core.specs.Cursor.{WereTested}

AreDerWithin-prop : (levels : ℕ) (elements : DerElements) → IsProp (AreDerWithin levels elements)
AreDerWithin-prop levels elements = hlevel (le_prop, AreWellFormed-prop elements, AreShort-prop elements)

-- elements paired with what they are
abbrev Nested : List ℕ → Type 0
Nested octets = (elements : DerElements) × (AreDerWithin (most_levels - 1) elements × (octets ≡ encodings elements))

abbrev nested : (octets : List ℕ) → HasElementsWithin (most_levels - 1) octets → Nested octets
nested octets has = (has.0, (has.1, has.2))

abbrev flat : (octets : List ℕ) → Nested octets → HasElementsWithin (most_levels - 1) octets
flat octets has = (has.0, has.1.0, has.1.1)

are_prop : (octets : List ℕ) (elements : DerElements) → IsProp (AreDerWithin (most_levels - 1) elements × (octets ≡ encodings elements))
are_prop octets elements = ×_prop (AreDerWithin-prop (most_levels - 1) elements) (octets-set octets (encodings elements))

inner_once : (octets : List ℕ) → IsProp (HasElementsWithin (most_levels - 1) octets)
inner_once octets a b =
    let same : nested octets a ≡ nested octets b =
    Σ_prop_path (are_prop octets) (same_kids a.0 b.0 a.1.formed b.1.formed a.1.short b.1.short (sym a.2 ∙ b.2)) in
    ap (flat octets) same

pub WereTested-prop : (level : ℕ) (octets : List ℕ) → IsProp (WereTested level octets)
WereTested-prop level octets = hlevel (inner_once octets)
