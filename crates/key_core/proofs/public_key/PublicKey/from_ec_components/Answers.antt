use Rattle.std.proofs.Common.{subst, ◌∙◌, rules}
use Rattle.key_core.specs.MadeKeys.{IsEcKey}
use Rattle.key_core.proofs.public_key.PublicKey.from_ec_components.Goals as goal

pub returns-in-Ok-clause-answer : goal.returns-in-Ok-clause-answer
returns-in-Ok-clause-answer c = record {
  oid = c.in_ok-oid.oid;
  named = c.in_ok-oid.ensures;
  point = subst (λ octets. IsEcKey c.in_ok-oid.oid octets c.in-Ok.info) (c.deref.ensures.value ∙ c.in_ok-point.ensures) c.in-Ok.ensures;
  sized = c.are_coordinates.ensures.0 (search rules);
}
