use Rattle.std.proofs.Common.{Some}
use Rattle.program_frame.specs.DateWord.{day_text}
use Rattle.ca_register.specs.Lines.{dates_words, path_word}
use Rattle.ca_register.proofs.Spelling.{day_is_word, none_some, path_is_word, same_some}
use Rattle.ca_register.proofs.text.reading.limits_of.Goals as goal

pub returns-in_err-path_length-clause-only : goal.returns-in_err-path_length-clause-only
returns-in_err-path_length-clause-only c limits is spelled =
    absurd (c.in_err-path_length.ensures.only (path_word limits.path_length) (dates_words limits) (path_is_word limits.path_length is.path) spelled)

pub returns-in_err-path_length-2-clause-only : goal.returns-in_err-path_length-2-clause-only
returns-in_err-path_length-2-clause-only c limits is spelled =
    let cut = c.in_ok-path_length.ensures.only (path_word limits.path_length) (dates_words limits) (path_is_word limits.path_length is.path) spelled in
    absurd (none_some _ (c.in_err-path_length-2.ensures.only limits.path_length is.path cut.0))

pub returns-in_err-from-clause-only : goal.returns-in_err-from-clause-only
returns-in_err-from-clause-only c limits is spelled =
    let cut = c.in_ok-path_length.ensures.only (path_word limits.path_length) (dates_words limits) (path_is_word limits.path_length is.path) spelled in
    absurd (c.in_err-from.ensures.only (day_text limits.from) (day_text limits.to) (day_is_word limits.from is.from) cut.1)

pub returns-in_err-from-2-clause-only : goal.returns-in_err-from-2-clause-only
returns-in_err-from-2-clause-only c limits is spelled =
    let cut = c.in_ok-path_length.ensures.only (path_word limits.path_length) (dates_words limits) (path_is_word limits.path_length is.path) spelled in
    let days = c.in_ok-from.ensures.only (day_text limits.from) (day_text limits.to) (day_is_word limits.from is.from) cut.1 in
    absurd (none_some _ (c.in_err-from-2.ensures.only limits.from is.from days.0))

pub returns-in_err-to-clause-only : goal.returns-in_err-to-clause-only
returns-in_err-to-clause-only c limits is spelled =
    let cut = c.in_ok-path_length.ensures.only (path_word limits.path_length) (dates_words limits) (path_is_word limits.path_length is.path) spelled in
    let days = c.in_ok-from.ensures.only (day_text limits.from) (day_text limits.to) (day_is_word limits.from is.from) cut.1 in
    absurd (none_some _ (c.in_err-to.ensures.only limits.to is.to days.1))

pub returns-clause-only : goal.returns-clause-only
returns-clause-only c limits is spelled =
    let cut = c.in_ok-path_length.ensures.only (path_word limits.path_length) (dates_words limits) (path_is_word limits.path_length is.path) spelled in
    let days = c.in_ok-from.ensures.only (day_text limits.from) (day_text limits.to) (day_is_word limits.from is.from) cut.1 in
    let path = same_some _ _ (c.in_ok-path_length-2.ensures.only limits.path_length is.path cut.0) in
    let from = same_some _ _ (c.in_ok-from-2.ensures.only limits.from is.from days.0) in
    let to = same_some _ _ (c.in_ok-to.ensures.only limits.to is.to days.1) in
    λ i. Some (record { path_length = path i; from = from i; to = to i })
