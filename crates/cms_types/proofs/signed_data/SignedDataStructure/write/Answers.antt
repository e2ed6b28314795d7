use Rattle.std.proofs.lemmas.Result.{err_from_is_err_and}
use Rattle.cms_types.proofs.Several.{none_list_refused}
use Rattle.cms_types.proofs.signed_data.SignedDataStructure.write.Goals as goal
use Rattle.der_core.specs.Facts.Lists.{none_refused}

pub returns-in_err-push_values : goal.returns-in_err-push_values
returns-in_err-push_values c =
    let p = err_from_is_err_and c.from_residual-in_err-push_values.result c.from_residual-in_err-push_values.ensures.1 in
    rw (p.1, p.2) (none_refused c.args.self.now.digest_algorithms _ c.in_err-push_values.ensures)

pub returns-in_err-push_list : goal.returns-in_err-push_list
returns-in_err-push_list c =
    let p = err_from_is_err_and c.from_residual-in_err-push_list.result c.from_residual-in_err-push_list.ensures.1 in
    rw (p.1, p.2) (none_list_refused c.args.self.now.certificates _ c.in_err-push_list.ensures)

pub returns-in_err-push_list-2 : goal.returns-in_err-push_list-2
returns-in_err-push_list-2 c =
    let p = err_from_is_err_and c.from_residual-in_err-push_list-2.result c.from_residual-in_err-push_list-2.ensures.1 in
    rw (p.1, p.2) (none_list_refused c.args.self.now.crls _ c.in_err-push_list-2.ensures)

pub returns-in_err-push_values-2 : goal.returns-in_err-push_values-2
returns-in_err-push_values-2 c =
    let p = err_from_is_err_and c.from_residual-in_err-push_values-2.result c.from_residual-in_err-push_values-2.ensures.1 in
    rw (p.1, p.2) (none_refused c.args.self.now.signers_infos _ c.in_err-push_values-2.ensures)
