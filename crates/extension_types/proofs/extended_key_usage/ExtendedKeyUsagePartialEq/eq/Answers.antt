use Rattle.std.proofs.Common.{◌≡◌, ◌↔◌, IsTrue, Bool, List, refl, ap, sym, ◌∙◌}
use Rattle.std.specs.Prelude.{bytes_eq}
use Rattle.std.specs.Cmp.Lexicographic.{pointwise}
use Rattle.der_core.specs.Facts.Equality.{octets_decide, pointwise_same}
use Rattle.std.proofs.lemmas.Slice.Eq.{bytes_eq-Decides}
use Rattle.asn1_types.specs.Facts.Elements.{same_oid}
use Rattle.asn1_types.specs.declared.oid.ObjectIdentifier.{ObjectIdentifier}
use Rattle.extension_types.specs.ExtendedKeyUsage.{extended_key_usage}
use Rattle.extension_types.specs.Facts.Usages.{extended_key_usages}
use Rattle.extension_types.specs.declared.extended_key_usage.ExtendedKeyUsage.{ExtendedKeyUsage}
use Rattle.extension_types.proofs.extended_key_usage.ExtendedKeyUsagePartialEq.eq.Goals as goal

abbrev eq : ObjectIdentifier → ObjectIdentifier → Bool
eq a b = bytes_eq a.contents b.contents

one : (a b : ObjectIdentifier) → IsTrue (eq a b) ↔ (a ≡ b)
one a b =
    let decides = bytes_eq-Decides a.contents b.contents in
    (λ t. same_oid a b (decides.0 t), λ e. decides.1 (ap (λ (i : ObjectIdentifier). i.contents) e))

by_purposes : (a b : ExtendedKeyUsage) (t : Bool) → t ≡ pointwise eq a.purposes b.purposes → IsTrue t ↔ (a ≡ b)
by_purposes a b t test =
    let same = pointwise_same eq one a.purposes b.purposes in
    (λ w. ap (λ (l : List ObjectIdentifier). record { purposes = l }) (same.0 (sym test ∙ w)), λ e. test ∙ same.1 (ap (λ (u : ExtendedKeyUsage). u.purposes) e))

pub returns-clause-same : goal.returns-clause-same
returns-clause-same c = by_purposes _ _ _ c.eq.ensures

pub returns-clause-octets : goal.returns-clause-octets
returns-clause-octets c = octets_decide extended_key_usage (λ a b e. extended_key_usages.once (extended_key_usage a) a b refl e)
    extended_key_usages.formed _ _ _ (by_purposes _ _ _ c.eq.ensures)
