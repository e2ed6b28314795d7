use Rattle.std.proofs.lemmas.Result.{err_from_is_err_and}
use Rattle.der_core.specs.Facts.Lists.{list_refused}
use Rattle.cms_types.proofs.OpusFields.{parts_of}
use Rattle.cms_types.proofs.opus_info.SpcSpOpusInfoStructure.read_at.Goals as goal

pub returns-in_err-read_option : goal.returns-in_err-read_option
returns-in_err-read_option c =
    let p = err_from_is_err_and c.from_residual.result c.from_residual.ensures.1 in
    rw (p.1, p.2) (list_refused _ _ _ (λ info is. (info.program_name, (parts_of _ _ _ c.in-Some.ensures info is).0)) c.in_err-read_option.ensures)

pub returns-in_err-read_option-2 : goal.returns-in_err-read_option-2
returns-in_err-read_option-2 c =
    let p = err_from_is_err_and c.from_residual-in_err-read_option-2.result c.from_residual-in_err-read_option-2.ensures.1 in
    rw (p.1, p.2) (list_refused _ _ _ (λ info is. (info.more_info, (parts_of _ _ _ c.in-Some.ensures info is).1)) c.in_err-read_option-2.ensures)
