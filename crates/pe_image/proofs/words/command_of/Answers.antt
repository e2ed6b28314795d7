use Rattle.std.proofs.Common.{refl, string_bytes, sym}
use Rattle.pe_image.proofs.AskedWords.{command_words, no_options, only_command}
use Rattle.pe_image.proofs.words.command_of.Goals as goal

pub returns-in_default-options_of-clause-asked : goal.returns-in_default-options_of-clause-asked
returns-in_default-options_of-clause-asked c =
    let are = command_words string_bytes c.args.words.now c.file-item.result c.table-item.result c.date-item.result
    (string_bytes c.file-item.result) (string_bytes c.table-item.result) c.as_str.result.now
    c.in-len3-up.len_at_least c.file-item.is c.table-item.is c.date-item.is refl refl (sym c.as_str.ensures.value) in
    rw are (no_options _ _ _ _ c.in_default-options_of.ensures.answer)

pub returns-in_default-options_of-clause-only : goal.returns-in_default-options_of-clause-only
returns-in_default-options_of-clause-only c command asked = absurd (returns-in_default-options_of-clause-asked c command asked)

pub returns-clause-only : goal.returns-clause-only
returns-clause-only c command asked =
    let are = command_words string_bytes c.args.words.now c.file-item.result c.table-item.result c.date-item.result
    c.as_str-2.result.now (string_bytes c.table-item.result) c.as_str.result.now
    c.in-len3-up.len_at_least c.file-item.is c.table-item.is c.date-item.is
    (sym c.as_str-2.ensures.value) refl (sym c.as_str.ensures.value) in
    only_command _ _ _ _ _ _ c.in-Some.ensures.only c.in-Some-options_of.ensures.only command (rw are at asked)
