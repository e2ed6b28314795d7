use Rattle.name_types.specs.Name.{attribute_type_and_value}
use Rattle.std.proofs.lemmas.Result.{err_from_is_err_and}
use Rattle.der_core.specs.Facts.Lists.{printed_list, list_printed, list_refused}
use Rattle.name_types.proofs.relative_name.RelativeDistinguishedNameStructure.read_at.Goals as goal

pub returns-in_err-read_list : goal.returns-in_err-read_list
returns-in_err-read_list c =
    let p = err_from_is_err_and c.from_residual.result c.from_residual.ensures.1 in
    rw (p.1, p.2) (list_refused _ _ _ (λ values is. (values, list_printed attribute_type_and_value 0x31 _ values is)) c.in_err-read_list.ensures)

pub returns : goal.returns
returns c = printed_list attribute_type_and_value 0x31 _ _ c.in_ok-read_list.ensures
