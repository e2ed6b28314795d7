-- Names of CAs that are excluded, compared as octets.
use Rattle.std.proofs.Common.{◌≡◌, ◌↔◌, ℕ, List, Bool, IsTrue, sym, ap, ◌∙◌}
use Rattle.der_core.specs.DerElement.{DerElement}
use Rattle.der_core.specs.Encoding.{encoding}
use Rattle.der_core.specs.Structure.{IsWithin}
use Rattle.name_types.specs.Name.{name}
use Rattle.names_core.specs.Names.{sets_of}
use Rattle.names_core.specs.declared.name.DirectoryName.{DirectoryName}
use Rattle.authenticode_core.specs.ListRules.{HasName}

abbrev Spells : DerElement → DirectoryName → Type 0
Spells element one = element ≡ name (sets_of one)

same_name : (names : List DirectoryName) (a b : DerElement) → encoding a ≡ encoding b → HasName names a → HasName names b
same_name names a b e has = (has.0, has.1, has.2, has.3 ∙ e)

pub read_name : (names : List DirectoryName) (read : DirectoryName) (element : DerElement) (returned : Bool) (octets : List ℕ) → octets ≡ encoding element
    → IsWithin Spells octets read → IsTrue returned ↔ HasName names (name (sets_of read)) → IsTrue returned ↔ HasName names element
read_name names read element returned octets is within test =
    let same : encoding (name (sets_of read)) ≡ encoding element = ap encoding (sym within.spelled) ∙ sym within.encoded ∙ is in
    (λ t. same_name names (name (sets_of read)) element same (test.0 t), λ has. test.1 (same_name names element (name (sets_of read)) (sym same) has))
