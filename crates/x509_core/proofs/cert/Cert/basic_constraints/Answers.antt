use Rattle.std.proofs.Common.{rules, subst}
use Rattle.asn1_types.specs.declared.oids.TheConstants.{CE_BASIC_CONSTRAINTS}
use Rattle.x509_types.specs.FirstOfValue.{IsFirstWith}
use Rattle.x509_core.proofs.cert.Cert.basic_constraints.Goals as goal

pub returns-in-BasicConstraints : goal.returns-in-BasicConstraints
returns-in-BasicConstraints c = record {
  extension = c.in-Some.extension.now;
  first = subst (λ es. IsFirstWith CE_BASIC_CONSTRAINTS.now es c.in-Some.extension.now) c.extensions.ensures c.in-Some.ensures;
  valued = search rules;
}
