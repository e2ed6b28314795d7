use Rattle.std.proofs.Common.{sym, ◌∙◌, subst, arith, rules}
use Rattle.std.proofs.lemmas.Fmt.{parse-decimal}
use Rattle.ca_register.proofs.Numbers.{BeginsAsNumber, decimals_begin, read_is}
use Rattle.ca_register.proofs.text.words.number_of.Goals as goal

pub returns-then-not-begins_as_number-clause-only : goal.returns-then-not-begins_as_number-clause-only
returns-then-not-begins_as_number-clause-only c number small spelled =
    let yes = c.begins_as_number.ensures.1 (subst BeginsAsNumber (sym (c.as_bytes.ensures.value ∙ spelled)) (decimals_begin number small)) in
    absurd (cc)

pub returns-in_err-number-clause-only : goal.returns-in_err-number-clause-only
returns-in_err-number-clause-only c number small spelled =
    let parsed = parse-decimal 64 number c.args.word.now c.parse.result (omega (arith, small)) (omega (arith, small)) spelled c.parse.ensures.value.0 in
    absurd (search (rules, parsed))

pub returns-then-number-gt-MOST_NUMBER-clause-only : goal.returns-then-number-gt-MOST_NUMBER-clause-only
returns-then-number-gt-MOST_NUMBER-clause-only c number small spelled =
    let parsed = parse-decimal 64 number c.args.word.now c.parse.result (omega (arith, small)) (omega (arith, small)) spelled c.parse.ensures.value.0 in
    absurd (search (rules, parsed))

pub returns-clause-read : goal.returns-clause-read
returns-clause-read c = (
  omega (arith, c.if-number-gt-MOST_NUMBER.false),
  read_is c.args.word.now c.in_ok-number.number c.parse.result (subst BeginsAsNumber c.as_bytes.ensures.value (c.begins_as_number.ensures.0 (search rules)))
      c.parse.ensures.value.0 (search rules),
)

pub returns-clause-only : goal.returns-clause-only
returns-clause-only c number small spelled =
    let parsed = parse-decimal 64 number c.args.word.now c.parse.result (omega (arith, small)) (omega (arith, small)) spelled c.parse.ensures.value.0 in
    search (rules, parsed)
