use Rattle.std.proofs.Common.{rules, subst}
use Rattle.asn1_types.specs.declared.oids.TheConstants.{CE_SUBJECT_KEY_IDENTIFIER}
use Rattle.x509_types.specs.FirstOfValue.{IsFirstWith}
use Rattle.x509_core.proofs.cert.Cert.subject_key_identifier.Goals as goal

pub returns-in-SubjectKeyIdentifier : goal.returns-in-SubjectKeyIdentifier
returns-in-SubjectKeyIdentifier c = record {
  extension = c.in-Some.extension.now;
  first = subst (λ es. IsFirstWith CE_SUBJECT_KEY_IDENTIFIER.now es c.in-Some.extension.now) c.extensions.ensures c.in-Some.ensures;
  valued = search rules;
}
