use Rattle.std.proofs.Common.{◌≡◌, ◌↔◌, IsTrue, Bool, ap, rules}
use Rattle.std.specs.Prelude.{bytes_eq}
use Rattle.std.proofs.lemmas.Slice.Eq.{bytes_eq-Decides}
use Rattle.der_core.specs.Facts.Equality.{same_tests}
use Rattle.x509_types.specs.ExtensionView.{inner_value}
use Rattle.x509_types.specs.Extension.{extension, extension_octets, IsExtension}
use Rattle.x509_types.specs.Facts.Extensions.{same_extension, extensions_by_octets, writable_decide, all_extensions}
use Rattle.x509_types.specs.declared.extension.Extension.{Extension}
use Rattle.x509_types.proofs.extension.ExtensionPartialEq.eq.Goals as goal

-- extensions with one OID and one flag are determined by their values
by_value : (a b : Extension) (t : Bool) → (a.extn_id ≡ b.extn_id) × (a.critical ≡ b.critical) → (IsTrue t ↔ (a.extn_value ≡ b.extn_value)) → IsTrue t ↔ (a ≡ b)
by_value a b t alike value = (λ w. same_extension a b alike.0 alike.1 (value.0 w), λ e. value.1 (ap (λ (x : Extension). x.extn_value) e))

by_octets : (a b : Extension) (t : Bool) → (IsTrue t ↔ (a ≡ b)) → t ≡ bytes_eq (extension_octets a) (extension_octets b)
by_octets a b t same =
    let decides = bytes_eq-Decides (extension_octets a) (extension_octets b) in
    same_tests t _ same (λ w. extensions_by_octets a b (decides.0 w), λ e. decides.1 (ap extension_octets e))

pub returns-then-has_same_id_and_flag-clause-octets : goal.returns-then-has_same_id_and_flag-clause-octets
returns-then-has_same_id_and_flag-clause-octets c =
    writable_decide IsExtension extension (λ e. inner_value e.extn_value) all_extensions c.args.self.now c.args.other.now _
    (by_value _ _ _ (c.has_same_id_and_flag.ensures.0 c.if-has_same_id_and_flag.true) c.eq.ensures.same)

pub returns-else-has_same_id_and_flag-clause-octets : goal.returns-else-has_same_id_and_flag-clause-octets
returns-else-has_same_id_and_flag-clause-octets c =
    writable_decide IsExtension extension (λ e. inner_value e.extn_value) all_extensions c.args.self.now c.args.other.now _ (search rules)

pub returns-then-has_same_id_and_flag-clause-compared : goal.returns-then-has_same_id_and_flag-clause-compared
returns-then-has_same_id_and_flag-clause-compared c =
    by_octets c.args.self.now c.args.other.now _ (by_value _ _ _ (c.has_same_id_and_flag.ensures.0 c.if-has_same_id_and_flag.true) c.eq.ensures.same)

pub returns-else-has_same_id_and_flag-clause-compared : goal.returns-else-has_same_id_and_flag-clause-compared
returns-else-has_same_id_and_flag-clause-compared c = by_octets c.args.self.now c.args.other.now _ (search rules)
