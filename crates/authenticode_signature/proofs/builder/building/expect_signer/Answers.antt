use Rattle.std.proofs.Common.{[], ◌∷◌}
use Rattle.std.proofs.lemmas.Bool.{iff_false}
use Rattle.std.proofs.lemmas.Result.{err_from_is_err_and}
use Rattle.der_core.proofs.TakenSteps.{refused_before}
use Rattle.authenticode_signature.specs.BuilderParts.{given_of}
use Rattle.authenticode_signature.specs.Building.{named_step, purpose_step}
use Rattle.authenticode_signature.specs.declared.builder_error.AuthenticodeSignatureBuilderError.TheVariants as errors
use Rattle.authenticode_signature.proofs.BuilderSteps.{not_for_code}
use Rattle.authenticode_signature.proofs.builder.building.expect_signer.Goals as goal

pub returns-in_err-signer : goal.returns-in_err-signer
returns-in_err-signer c =
    let p = err_from_is_err_and c.from_residual.result c.from_residual.ensures.1 in
    let g = given_of c.args.given.now in
    rw (p.1, p.2) (refused_before errors.Memory (named_step g ∷ []) (purpose_step g ∷ []) c.in_err-signer.field-0.0 c.in_err-signer.ensures)

pub returns-else-may_sign_code : goal.returns-else-may_sign_code
returns-else-may_sign_code c =
    not_for_code (given_of c.args.given.now) c.in_ok-signer.signer.now.elements c.in_ok-signer.ensures
    (λ may. iff_false c.may_sign_code.ensures c.if-may_sign_code.false may)
