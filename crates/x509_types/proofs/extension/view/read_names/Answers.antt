use Rattle.std.proofs.lemmas.Result.{err_from_is_err_and}
use Rattle.x509_types.proofs.ExtensionValues.{names_refused}
use Rattle.x509_types.proofs.extension.view.read_names.Goals as goal

pub returns-in_err-read_within : goal.returns-in_err-read_within
returns-in_err-read_within c =
    let p = err_from_is_err_and c.from_residual.result c.from_residual.ensures.1 in
    rw (p.1, p.2) (names_refused _ _ (c.has_within.ensures.fits c.if-has_within.true) c.in_err-read_within.ensures)

pub returns-else-has_within : goal.returns-else-has_within
returns-else-has_within c = c.has_within.ensures.unfit c.if-has_within.false
