use Rattle.std.proofs.lemmas.Result.{err_from_is_err_and}
use Rattle.cms_types.specs.Borrowed.{signer_at}
use Rattle.cms_types.proofs.Fields.{no_signed_by, no_signature}
use Rattle.cms_types.proofs.signer_info.fields.SignerFields.read.Goals as goal

pub returns-in_err-signed : goal.returns-in_err-signed
returns-in_err-signed c =
    let p = err_from_is_err_and c.from_residual-in_err-signed.result c.from_residual-in_err-signed.ensures.1 in
    rw (p.1, p.2) (no_signature (signer_at c.args.self.now) _ c.in_err-signed.ensures)

pub returns-in_err-by : goal.returns-in_err-by
returns-in_err-by c =
    let p = err_from_is_err_and c.from_residual-in_err-by.result c.from_residual-in_err-by.ensures.1 in
    rw (p.1, p.2) (no_signed_by (signer_at c.args.self.now) _ c.in_err-by.ensures)
