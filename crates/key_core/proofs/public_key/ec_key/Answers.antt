use Rattle.std.proofs.Common.{Some, refl, ap, ◌∙◌}
use Rattle.der_core.specs.BorrowedOption.{kept_option}
use Rattle.asn1_types.specs.Values.{identifier_contents}
use Rattle.key_core.proofs.public_key.ec_key.Goals as goal

pub returns : goal.returns
returns c = record {
  key = c.in_ok-bits.bits;
  is = refl;
  identifier = ap identifier_contents c.new.ensures.0 ∙ c.in_ok-oid.ensures;
  parameters = ap kept_option c.new.ensures.1 ∙ ap Some c.in_ok-parameters.ensures;
  whole = c.in_ok-bits.ensures.0;
  payload = c.in_ok-bits.ensures.1;
}
