use Rattle.std.proofs.Common.{inl}
use Rattle.authenticode_core.proofs.NamedCertificates.{returns_name}
use Rattle.authenticode_core.proofs.signature.no_certificate.Goals as goal

pub returns-in-Ok-from_content : goal.returns-in-Ok-from_content
returns-in-Ok-from_content c = inl (returns_name _ _ _ _ c.in-Ok.ensures.answer c.in-Ok-from_content.ensures.read)
