use Rattle.std.proofs.Common.{◌≡◌, ◌↔◌, IsTrue, Bool, ap, rules}
use Rattle.der_core.specs.Facts.Equality.{octets_decide}
use Rattle.key_types.specs.PublicKeyInfo.{public_key_info}
use Rattle.key_types.specs.Facts.Keys.{same_info, infos_once, infos_formed}
use Rattle.key_types.specs.declared.key_info.SubjectPublicKeyInfo.{SubjectPublicKeyInfo}
use Rattle.key_types.proofs.key_info.SubjectPublicKeyInfoPartialEq.eq.Goals as goal

by_key : (a b : SubjectPublicKeyInfo) (t : Bool) → a.algorithm ≡ b.algorithm → (IsTrue t ↔ (a.subject_public_key ≡ b.subject_public_key)) → IsTrue t ↔ (a ≡ b)
by_key a b t algorithm key = (λ w. same_info a b algorithm (key.0 w), λ e. key.1 (ap (λ (i : SubjectPublicKeyInfo). i.subject_public_key) e))

pub returns-then-eq-clause-same : goal.returns-then-eq-clause-same
returns-then-eq-clause-same c = by_key c.args.self.now c.args.other.now _ (c.eq.ensures.same.0 c.if-eq.true) c.eq-then-eq.ensures.same

pub returns-then-eq-clause-octets : goal.returns-then-eq-clause-octets
returns-then-eq-clause-octets c = octets_decide public_key_info infos_once infos_formed c.args.self.now c.args.other.now _
    (by_key c.args.self.now c.args.other.now _ (c.eq.ensures.same.0 c.if-eq.true) c.eq-then-eq.ensures.same)

pub returns-else-eq-clause-octets : goal.returns-else-eq-clause-octets
returns-else-eq-clause-octets c = octets_decide public_key_info infos_once infos_formed c.args.self.now c.args.other.now _ (search rules)
