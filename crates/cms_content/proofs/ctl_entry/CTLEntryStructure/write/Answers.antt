use Rattle.std.proofs.lemmas.Result.{err_from_is_err_and}
use Rattle.der_core.specs.Facts.Lists.{none_refused}
use Rattle.cms_content.proofs.ctl_entry.CTLEntryStructure.write.Goals as goal

pub returns-in_err-write_list : goal.returns-in_err-write_list
returns-in_err-write_list c =
    let p = err_from_is_err_and c.from_residual-in_err-write_list.result c.from_residual-in_err-write_list.ensures.1 in
    rw (p.1, p.2) (none_refused c.args.self.now.attributes _ c.in_err-write_list.ensures)
