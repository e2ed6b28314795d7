use Rattle.std.proofs.lemmas.Result.{err_from_is_err_and}
use Rattle.cms_types.proofs.Several.{none_list_refused}
use Rattle.cms_types.proofs.signer_info.SignerInfoStructure.write.Goals as goal

pub returns-in_err-push_list : goal.returns-in_err-push_list
returns-in_err-push_list c =
    let p = err_from_is_err_and c.from_residual-in_err-push_list.result c.from_residual-in_err-push_list.ensures.1 in
    rw (p.1, p.2) (none_list_refused c.args.self.now.unsigned_attrs _ c.in_err-push_list.ensures)
