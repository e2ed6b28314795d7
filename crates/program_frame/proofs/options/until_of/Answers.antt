use Rattle.std.proofs.Common.{map, string_bytes, sym}
use Rattle.program_frame.proofs.WordLists.{behind, words_are}
use Rattle.program_frame.proofs.OptionWords.{until_first, until_is}
use Rattle.program_frame.proofs.options.until_of.Goals as goal

pub returns-in_err-date-clause-only : goal.returns-in_err-date-clause-only
returns-in_err-date-clause-only c option rest begins =
    let h = until_is option (map string_bytes c.args.words.now) rest begins in
    let are =
    words_are string_bytes c.args.words.now c.date-item.result c.as_str.result.now c.in-len1-up.len_at_least c.date-item.is (sym c.as_str.ensures.value) in
    absurd (c.in_err-date.ensures.said h.date
    (until_first c.as_str.result.now (map string_bytes c.args.words.now) (map string_bytes (behind c.args.words.now)) rest option are h))
