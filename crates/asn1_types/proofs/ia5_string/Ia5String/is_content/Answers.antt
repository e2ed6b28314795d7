use Rattle.std.proofs.Common.{◌↔◌, ℕ, Bool, true, false, List, IsTrue, refl, arith}
use Rattle.std.specs.Bool.{MatchBool}
use Rattle.std.specs.Str.{IsAscii, IsNotAscii}
use Rattle.std.proofs.lemmas.Grind.{get_or_default_zero}
use Rattle.std.proofs.lemmas.Str.Ascii.{IsAscii-from_all}
use Rattle.asn1_types.specs.Ia5String.{IsIa5}
use Rattle.asn1_types.proofs.ia5_string.Ia5String.is_content.Goals as goal

of_ascii : (text : List ℕ) (answer : Bool) → MatchBool answer (IsAscii text) (IsNotAscii text) → IsTrue answer ↔ IsIa5 text
of_ascii text true ascii = (λ _. λ k d below. omega (arith, ascii k, get_or_default_zero text k d below), λ _. refl)
of_ascii text false past = (
  λ t. cc,
  λ ia5.
      let ascii = IsAscii-from_all text (λ k d below. omega (arith, ia5 k d below)) in
      absurd (omega (arith, past.1, ascii past.0)),
)

pub returns : goal.returns
returns c = record { formed = of_ascii c.args.bytes.now c.is_ascii.result c.is_ascii.ensures.cases }
