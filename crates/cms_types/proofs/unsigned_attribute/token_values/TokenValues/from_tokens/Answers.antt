use Rattle.std.proofs.Common.{sym, subst}
use Rattle.std.proofs.lemmas.Result.{err_from_is_err_and}
use Rattle.cms_types.specs.Pkcs7.{pkcs7}
use Rattle.cms_types.specs.Signers.{ArePkcs7s}
use Rattle.cms_types.proofs.Several.{alone_refused}
use Rattle.cms_types.proofs.SignerLaws.{pkcs7s_of_values}
use Rattle.cms_types.proofs.unsigned_attribute.token_values.TokenValues.from_tokens.Goals as goal

pub returns-in_err-items : goal.returns-in_err-items
returns-in_err-items c =
    let p = err_from_is_err_and c.from_residual.result c.from_residual.ensures.1 in
    rw (p.1, p.2) (alone_refused pkcs7 c.args.tokens.now _ c.in_err-items.ensures)

pub invariant_of-result : goal.invariant_of-result
invariant_of-result c = record { all = subst (λ es. ∥ ArePkcs7s es ∥₁) (sym c.in_ok-items.ensures) (pkcs7s_of_values _) }
