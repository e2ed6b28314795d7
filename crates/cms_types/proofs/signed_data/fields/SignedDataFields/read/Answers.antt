use Rattle.std.proofs.lemmas.Result.{err_from_is_err_and}
use Rattle.cms_types.specs.Borrowed.{signed_data_at}
use Rattle.cms_types.proofs.Fields.{none_carried, none_signed}
use Rattle.cms_types.proofs.signed_data.fields.SignedDataFields.read.Goals as goal

pub returns-in_err-carried : goal.returns-in_err-carried
returns-in_err-carried c =
    let p = err_from_is_err_and c.from_residual-in_err-carried.result c.from_residual-in_err-carried.ensures.1 in
    rw (p.1, p.2) (none_carried (signed_data_at c.args.self.now) _ c.in_err-carried.ensures)

pub returns-in_err-signed : goal.returns-in_err-signed
returns-in_err-signed c =
    let p = err_from_is_err_and c.from_residual-in_err-signed.result c.from_residual-in_err-signed.ensures.1 in
    rw (p.1, p.2) (none_signed (signed_data_at c.args.self.now) _ c.in_err-signed.ensures)
