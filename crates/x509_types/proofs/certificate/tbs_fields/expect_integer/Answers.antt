use Rattle.std.proofs.Common.{refl}
use Rattle.x509_types.proofs.certificate.tbs_fields.expect_integer.Goals as goal

pub returns-then-is_content : goal.returns-then-is_content
returns-then-is_content c = (record { contents = c.args.contents.now; formed = c.is_content.ensures.formed.0 c.if-is_content.true }, refl)
