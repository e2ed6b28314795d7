use Rattle.std.proofs.Common.{rules}
use Rattle.std.proofs.lemmas.Grind.{merely}
use Rattle.cms_types.proofs.Viewed.{no_data_fields, not_signers, data_held, viewed_value, read_value}
use Rattle.cms_types.proofs.signed_data.view.SignedView.read.Goals as goal

pub returns-in_err-fields : goal.returns-in_err-fields
returns-in_err-fields c = rw c.from_residual-in_err-fields.ensures (λ value is. no_data_fields _ _ value c.in_ok-signed_data.ensures is c.in_err-fields.ensures)

pub returns-then-not-has_signers : goal.returns-then-not-has_signers
returns-then-not-has_signers c =
    λ value is. not_signers _ _ _ value c.in_ok-signed_data.ensures is c.in_ok-fields.ensures (λ signers. c.has_signers.ensures.unfit signers (search rules))

pub invariant_of-result : goal.invariant_of-result
invariant_of-result c =
    record { fits = merely (viewed_value _ _ c.in_ok-fields.ensures (data_held _ _ c.in_ok-fields.ensures (c.has_signers.ensures.fits (search rules)))) }

pub returns : goal.returns
returns c =
    let v = read_value _ _ _ c.in_ok-signed_data.signed_data.is.1.0 c.in_ok-signed_data.ensures c.in_ok-fields.ensures
    (data_held _ _ c.in_ok-fields.ensures (c.has_signers.ensures.fits (search rules))) in
    record { is = v.0; fields = c.in_ok-fields.ensures.fields; value = v.1.0; spelled = v.1.1 }
