use Rattle.std.proofs.Common.{◌≡◌, ◌↔◌, IsTrue, Bool, refl, sym, ◌∙◌}
use Rattle.der_core.specs.Equality.{same_octets}
use Rattle.der_core.specs.Facts.Equality.{octets_decide}
use Rattle.key_types.specs.ECPrivateKey.{ec_private_key}
use Rattle.key_types.specs.Facts.ECPrivateKeys.{ec_private_keys}
use Rattle.key_types.specs.declared.ec_private_key.ECPrivateKey.{ECPrivateKey}
use Rattle.key_types.proofs.ECFields.{by_point, other_curve, other_secret}
use Rattle.key_types.proofs.ec_private_key.ECPrivateKeyPartialEq.eq.Goals.{then-eq, else-eq}
use Rattle.key_types.proofs.ec_private_key.ECPrivateKeyPartialEq.eq.Goals as goal

by_octets : (a b : ECPrivateKey) (test : Bool) → (IsTrue test ↔ (a ≡ b)) → test ≡ same_octets ec_private_key a b
by_octets = octets_decide ec_private_key (λ a b e. ec_private_keys.once (ec_private_key a) a b refl e) ec_private_keys.formed

pub returns-then-eq-2-clause-same : goal.returns-then-eq-2-clause-same
returns-then-eq-2-clause-same c =
    elim c.if-eq.branch [
      | then-eq w ↦ by_point c.args.self.now c.args.other.now _ _ (c.eq.ensures.same.0 w.if-eq.true) w.eq-then-eq.ensures (sym w.value-is ∙ c.if-eq-2.true)
          c.eq-then-eq-2.ensures
      | else-eq w ↦ absurd cc (w.value-is, c.if-eq-2.true)
    ]

pub returns-then-eq-2-clause-octets : goal.returns-then-eq-2-clause-octets
returns-then-eq-2-clause-octets c = by_octets c.args.self.now c.args.other.now _ (returns-then-eq-2-clause-same c)

pub returns-else-eq-2-clause-octets : goal.returns-else-eq-2-clause-octets
returns-else-eq-2-clause-octets c = by_octets c.args.self.now c.args.other.now _
    (elim c.if-eq.branch [
      | then-eq w ↦ other_curve c.args.self.now c.args.other.now _ _ w.value-is w.eq-then-eq.ensures c.if-eq-2.false
      | else-eq w ↦ other_secret c.args.self.now c.args.other.now _ _ c.eq.ensures.same w.if-eq.false c.if-eq-2.false
    ])
