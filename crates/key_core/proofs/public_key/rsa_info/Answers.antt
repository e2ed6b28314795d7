use Rattle.std.proofs.Common.{refl, ap, ◌∙◌}
use Rattle.asn1_types.specs.Values.{identifier_contents}
use Rattle.key_core.proofs.public_key.rsa_info.Goals as goal

pub returns : goal.returns
returns c = record {
  is = refl;
  identifier = ap identifier_contents c.in_ok-with_null.ensures.0 ∙ c.in_ok-oid.ensures;
  parameters = c.in_ok-with_null.ensures.1;
}
