use Rattle.std.proofs.Common.{ap, sym, arith}
use Rattle.std.specs.Prelude.{string_bytes}
use Rattle.std.proofs.lemmas.List.{length-map}
use Rattle.program_frame.proofs.WordLists.{words_are}
use Rattle.signature_questions.specs.Words.{OfChain}
use Rattle.signature_questions.proofs.words.chain_of.Goals as goal

pub returns-in_default : goal.returns-in_default
returns-in_default c = λ limits. absurd (omega (arith, limits.0, length-map c.args.certificates.now string_bytes))

pub returns-then-certificates-gt-MOST_CERTIFICATES : goal.returns-then-certificates-gt-MOST_CERTIFICATES
returns-then-certificates-gt-MOST_CERTIFICATES c = λ limits.
    absurd (omega (arith, limits.1, length-map c.args.certificates.now string_bytes, c.if-certificates-gt-MOST_CERTIFICATES.true))

pub returns : goal.returns
returns c = (
  ap OfChain (sym (words_are string_bytes c.args.certificates.now c.checked-item.result c.as_str.result.now c.in-len1-up.len_at_least c.checked-item.is
      (sym c.as_str.ensures.value))),
  (
    omega (arith, length-map c.args.certificates.now string_bytes, c.in-len1-up.len_at_least),
    omega (arith, length-map c.args.certificates.now string_bytes, c.if-certificates-gt-MOST_CERTIFICATES.false),
  ),
)
