use Rattle.std.proofs.Common.{Some, subst, ◌∙◌, rules}
use Rattle.key_core.specs.CurveKeys.{IsGivenCurveKey}
use Rattle.key_core.proofs.private_key.PrivateKey.from_ec_components.Goals as goal

pub returns-clause-answer : goal.returns-clause-answer
returns-clause-answer c = record {
  oid = c.in_ok-oid.oid;
  named = c.in_ok-oid.ensures;
  given = subst (λ octets. IsGivenCurveKey c.in_ok-oid.oid c.args.secret.now (Some octets) c.in_ok-from_ec_encoded_components.field-0)
      (c.deref.ensures.value ∙ c.in_ok-point.ensures) c.in_ok-from_ec_encoded_components.ensures;
  sized = c.are_coordinates.ensures.0 (search rules);
}
