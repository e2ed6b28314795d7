-- Rules for keys and signatures, and how they are refused.
use Rattle.std.specs.Prelude.{List}
use Rattle.der_core.specs.Rules.{Rule, RefusesByRules}
use Rattle.key_core.specs.declared.error.KeyError.{KeyError}
use Rattle.key_core.specs.declared.error.KeyError.TheVariants as key
use Rattle.key_core.specs.declared.signature_error.SignatureError.{SignatureError}
use Rattle.key_core.specs.declared.signature_error.SignatureError.TheVariants as errors

-- the error reports the first broken rule, unless memory ran out
abbrev pub RefusesSignatureBy : List (Rule SignatureError) → SignatureError → Type 0
RefusesSignatureBy = RefusesByRules errors.Memory

-- a key error as one of a signature: out of memory is reported as such
abbrev pub key_refusal : KeyError → SignatureError
key_refusal key.Memory = errors.Memory
key_refusal source = errors.Key source
