use Rattle.std.proofs.lemmas.Result.{err_from_is_err_and}
use Rattle.cms_types.proofs.unsigned_attribute.raw.write_attribute.Goals as goal
use Rattle.der_core.specs.Facts.Lists.{none_refused}

pub returns-in_err-push_values : goal.returns-in_err-push_values
returns-in_err-push_values c =
    let p = err_from_is_err_and c.from_residual-in_err-push_values.result c.from_residual-in_err-push_values.ensures.1 in
    rw (p.1, p.2) (none_refused c.args.values.now _ c.in_err-push_values.ensures)
