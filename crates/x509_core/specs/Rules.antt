-- How broken rules of certificates are reported.
use Rattle.std.specs.Prelude.{List}
use Rattle.der_core.specs.Rules.{Rule, OrMemory, RefusesByRules}
use Rattle.x509_core.specs.declared.error.CertError.{CertError}
use Rattle.x509_core.specs.declared.error.CertError.TheVariants as errors

-- the error reports that the rule is broken, unless memory ran out
abbrev pub Breaks : Rule CertError → CertError → Type 0
Breaks = OrMemory errors.Memory

-- the error reports the first broken rule, unless memory ran out
abbrev pub RefusesCertBy : List (Rule CertError) → CertError → Type 0
RefusesCertBy = RefusesByRules errors.Memory
