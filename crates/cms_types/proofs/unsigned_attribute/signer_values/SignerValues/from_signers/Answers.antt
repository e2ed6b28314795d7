use Rattle.std.proofs.Common.{sym, subst}
use Rattle.std.proofs.lemmas.Result.{err_from_is_err_and}
use Rattle.cms_types.specs.SignerInfo.{signer_info}
use Rattle.cms_types.specs.Signers.{AreSignerInfos}
use Rattle.cms_types.proofs.Several.{alone_refused}
use Rattle.cms_types.proofs.SignerLaws.{signers_of_values}
use Rattle.cms_types.proofs.unsigned_attribute.signer_values.SignerValues.from_signers.Goals as goal

pub returns-in_err-items : goal.returns-in_err-items
returns-in_err-items c =
    let p = err_from_is_err_and c.from_residual.result c.from_residual.ensures.1 in
    rw (p.1, p.2) (alone_refused signer_info c.args.signers.now _ c.in_err-items.ensures)

pub invariant_of-result : goal.invariant_of-result
invariant_of-result c = record { all = subst (λ es. ∥ AreSignerInfos es ∥₁) (sym c.in_ok-items.ensures) (signers_of_values _) }
