use Rattle.std.proofs.Common.{map, string_bytes, Some, sym, ap}
use Rattle.program_frame.specs.Owned.{option_held, options_held}
use Rattle.program_frame.proofs.WordLists.{behind, words_are}
use Rattle.program_frame.proofs.OptionWords.{all_read, only_read, none_next, not_again, nothing_left, one_more}
use Rattle.program_frame.proofs.options.options_of.Goals as goal

pub returns-in_default-first_option-clause-answer : goal.returns-in_default-first_option-clause-answer
returns-in_default-first_option-clause-answer c =
    let are =
    words_are string_bytes c.loop-rest.rest.now c.word-item.result c.as_str.result.now c.in-len1-up.len_at_least c.word-item.is (sym c.as_str.ensures.value) in
    none_next (map string_bytes c.args.words.now) (map string_bytes c.loop-rest.rest.now) (options_held c.loop-rest.options) c.loop-rest.invariant
    c.as_str.result.now (map string_bytes (behind c.loop-rest.rest.now)) are c.in_default-first_option.ensures.only

pub returns-in_default-first_option-clause-only : goal.returns-in_default-first_option-clause-only
returns-in_default-first_option-clause-only c all is = absurd (returns-in_default-first_option-clause-answer c all is)

pub returns-in_default-with-clause-answer : goal.returns-in_default-with-clause-answer
returns-in_default-with-clause-answer c =
    let are =
    words_are string_bytes c.loop-rest.rest.now c.word-item.result c.as_str.result.now c.in-len1-up.len_at_least c.word-item.is (sym c.as_str.ensures.value) in
    not_again (map string_bytes c.args.words.now) (map string_bytes c.loop-rest.rest.now) (options_held c.loop-rest.options) c.loop-rest.invariant
    c.as_str.result.now (map string_bytes (behind c.loop-rest.rest.now)) are (option_held c.in-Some.field-0.option)
    (map string_bytes c.in-Some.field-0.behind.now)
    c.in-Some.ensures.only c.in_default-with.ensures

pub returns-in_default-with-clause-only : goal.returns-in_default-with-clause-only
returns-in_default-with-clause-only c all is =
    let are =
    words_are string_bytes c.loop-rest.rest.now c.word-item.result c.as_str.result.now c.in-len1-up.len_at_least c.word-item.is (sym c.as_str.ensures.value) in
    absurd (not_again (map string_bytes c.args.words.now) (map string_bytes c.loop-rest.rest.now) (options_held c.loop-rest.options) c.loop-rest.invariant
    c.as_str.result.now (map string_bytes (behind c.loop-rest.rest.now)) are (option_held c.in-Some.field-0.option)
    (map string_bytes c.in-Some.field-0.behind.now)
    c.in-Some.ensures.only c.in_default-with.ensures all is)

pub loop-rest-preserved : goal.loop-rest-preserved
loop-rest-preserved c =
    let are =
    words_are string_bytes c.loop-rest.rest.now c.word-item.result c.as_str.result.now c.in-len1-up.len_at_least c.word-item.is (sym c.as_str.ensures.value) in
    let new = c.in-Some-with.ensures in
    rw new.1 (one_more (map string_bytes c.args.words.now) (map string_bytes c.loop-rest.rest.now) (options_held c.loop-rest.options) c.loop-rest.invariant
    c.as_str.result.now (map string_bytes (behind c.loop-rest.rest.now)) are (option_held c.in-Some.field-0.option)
    (map string_bytes c.in-Some.field-0.behind.now)
    c.in-Some.ensures.only new.0 c.in-Some.ensures.first)

pub returns-clause-answer : goal.returns-clause-answer
returns-clause-answer c =
    all_read (map string_bytes c.args.words.now) (map string_bytes c.loop-rest.rest.now) (options_held c.loop-rest.options) c.loop-rest.invariant
    (nothing_left string_bytes c.loop-rest.rest.now c.in_default.len_below)

pub returns-clause-only : goal.returns-clause-only
returns-clause-only c all is =
    ap Some (sym (only_read (map string_bytes c.args.words.now) (map string_bytes c.loop-rest.rest.now) (options_held c.loop-rest.options) c.loop-rest.invariant
    (nothing_left string_bytes c.loop-rest.rest.now c.in_default.len_below) all is))
