use Rattle.name_types.specs.GeneralName.{general_name}
use Rattle.std.proofs.lemmas.Result.{err_from_is_err_and}
use Rattle.der_core.specs.Facts.Lists.{printed_list, list_printed, list_refused}
use Rattle.name_types.proofs.general_names.RawGeneralNamesStructure.read_at.Goals as goal

pub returns-in_err-read_list : goal.returns-in_err-read_list
returns-in_err-read_list c =
    let p = err_from_is_err_and c.from_residual.result c.from_residual.ensures.1 in
    rw (p.1, p.2) (list_refused _ _ _ (λ values is. (values, list_printed general_name 0x30 _ values is)) c.in_err-read_list.ensures)

pub returns : goal.returns
returns c = printed_list general_name 0x30 _ _ c.in_ok-read_list.ensures
