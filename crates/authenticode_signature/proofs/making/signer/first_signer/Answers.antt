use Rattle.std.proofs.lemmas.Bool.{iff_false}
use Rattle.authenticode_signature.proofs.WalkPurposes.{no_first}
use Rattle.authenticode_signature.proofs.making.signer.first_signer.Goals as goal

pub returns-else-may_sign_code : goal.returns-else-may_sign_code
returns-else-may_sign_code c =
    no_first c.args.bag.now c.in-Some.field-0-1.now c.in-Some.first.now c.in-Some.ensures.cases.0
    (λ may. iff_false c.may_sign_code.ensures c.if-may_sign_code.false may)
