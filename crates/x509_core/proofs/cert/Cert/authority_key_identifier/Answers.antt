use Rattle.std.proofs.Common.{rules, subst}
use Rattle.asn1_types.specs.declared.oids.TheConstants.{CE_AUTHORITY_KEY_IDENTIFIER}
use Rattle.x509_types.specs.FirstOfValue.{IsFirstWith}
use Rattle.x509_core.proofs.cert.Cert.authority_key_identifier.Goals as goal

pub returns-in-AuthorityKeyIdentifier : goal.returns-in-AuthorityKeyIdentifier
returns-in-AuthorityKeyIdentifier c = record {
  extension = c.in-Some.extension.now;
  first = subst (λ es. IsFirstWith CE_AUTHORITY_KEY_IDENTIFIER.now es c.in-Some.extension.now) c.extensions.ensures c.in-Some.ensures;
  valued = search rules;
}
