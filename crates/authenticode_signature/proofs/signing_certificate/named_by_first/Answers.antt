use Rattle.authenticode_signature.proofs.Namings.{first_by_key, first_is}
use Rattle.authenticode_signature.proofs.signing_certificate.named_by_first.Goals as goal

pub returns-in-IssuerAndSerialNumber : goal.returns-in-IssuerAndSerialNumber
returns-in-IssuerAndSerialNumber c = first_is c.args.signers.now c.in-Some.first.now _ c.in-Some.ensures.value c.in-IssuerAndSerialNumber.is

pub returns-in-SubjectKeyIdentifier : goal.returns-in-SubjectKeyIdentifier
returns-in-SubjectKeyIdentifier c = first_by_key c.args.signers.now c.in-Some.first.now _ c.in-Some.ensures.value c.in-SubjectKeyIdentifier.is
