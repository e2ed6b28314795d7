use Rattle.std.proofs.Common.{◌≡◌, ◌↔◌, IsTrue, Bool, ap}
use Rattle.std.specs.Prelude.{bytes_eq}
use Rattle.std.proofs.lemmas.Slice.Eq.{bytes_eq-Decides}
use Rattle.der_core.specs.Facts.Equality.{same_tests, same_whole}
use Rattle.key_core.specs.PrivateKeyValue.{private_key_octets}
use Rattle.key_core.specs.Facts.PrivateKeyValues.{keys_by_octets}
use Rattle.key_core.specs.declared.private_key_value.PrivateKeyValue.{PrivateKeyValue}
use Rattle.key_core.specs.declared.private_key_value.PrivateKeyValue.TheVariants as values
use Rattle.key_core.proofs.private_key_value.PrivateKeyValuePartialEq.eq.Goals as goal

by_octets : (a b : PrivateKeyValue) (t : Bool) → (IsTrue t ↔ (a ≡ b)) → t ≡ bytes_eq (private_key_octets a) (private_key_octets b)
by_octets a b t same =
    let decides = bytes_eq-Decides (private_key_octets a) (private_key_octets b) in
    same_tests t _ same (λ w. keys_by_octets a b (decides.0 w), λ e. decides.1 (ap private_key_octets e))

pub returns-in-Ed-Ed-clause-octets : goal.returns-in-Ed-Ed-clause-octets
returns-in-Ed-Ed-clause-octets c = by_octets _ _ _ (same_whole values.Ed (λ a b e. cc) _ _ _ _ _ c.in-Ed-Ed.is-0 c.in-Ed-Ed.is-1 c.eq-in-Ed-Ed.ensures.same)
