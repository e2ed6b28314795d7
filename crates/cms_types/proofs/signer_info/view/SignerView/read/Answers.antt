use Rattle.std.proofs.Common.{rules}
use Rattle.std.proofs.lemmas.Grind.{merely}
use Rattle.cms_types.proofs.SignerLaws.{value_of_signer}
use Rattle.cms_types.proofs.Viewed.{no_signer_fields, not_signer, viewed_signer}
use Rattle.cms_types.proofs.signer_info.view.SignerView.read.Goals as goal

pub returns-in_err-fields : goal.returns-in_err-fields
returns-in_err-fields c = rw c.from_residual.ensures (λ value is. no_signer_fields _ value is c.in_err-fields.ensures)

pub returns-then-not-is_signer_info : goal.returns-then-not-is_signer_info
returns-then-not-is_signer_info c = λ value is. not_signer _ value is (c.is_signer_info.ensures.unfit (search rules))

pub invariant_of-result : goal.invariant_of-result
invariant_of-result c = record { fits = merely (viewed_signer _ _ c.in_ok-fields.ensures (c.is_signer_info.ensures.fits (search rules))) }

pub returns : goal.returns
returns c =
    let s = value_of_signer _ c.args.elem.is.1.0 (c.is_signer_info.ensures.fits (search rules)) in
    record { is = c.in_ok-fields.ensures.is; fields = c.in_ok-fields.ensures.fields; value = s.0; spelled = s.1 }
