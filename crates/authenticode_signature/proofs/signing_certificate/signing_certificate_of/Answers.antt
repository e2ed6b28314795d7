use Rattle.std.proofs.Common.{Err, ap}
use Rattle.std.proofs.lemmas.Result.{err_from_is_err_and}
use Rattle.authenticode_core.proofs.SignerOrder.{given}
use Rattle.authenticode_signature.proofs.Namings.{is_signing, not_otherwise, one_otherwise}
use Rattle.authenticode_signature.proofs.signing_certificate.signing_certificate_of.Goals as goal

pub returns-in_err-named-clause-refused : goal.returns-in_err-named-clause-refused
returns-in_err-named-clause-refused c e is =
    let p = err_from_is_err_and c.from_residual.result c.from_residual.ensures.1 in
    rw p.1 (ap Err (rw p.2 (one_otherwise c.args.signers.now c.in_err-named.field-0.0 e c.in_err-named.ensures is)))

pub returns-in_err-found-clause-refused : goal.returns-in_err-found-clause-refused
returns-in_err-found-clause-refused c e is = absurd (not_otherwise c.args.signers.now _ e c.in_ok-named.ensures is)

pub returns-in-Some-clause-found : goal.returns-in-Some-clause-found
returns-in-Some-clause-found c =
    let found = given _ _ _ _ c.in-Some.is c.in_ok-found.ensures in
    is_signing c.args.signers.now _ c.args.certificates.now _ c.in_ok-named.ensures found.0 found.1 found.2

pub returns-in-Some-clause-refused : goal.returns-in-Some-clause-refused
returns-in-Some-clause-refused c e is = absurd (not_otherwise c.args.signers.now _ e c.in_ok-named.ensures is)

pub returns-in_err-none_named-in-None-clause-refused : goal.returns-in_err-none_named-in-None-clause-refused
returns-in_err-none_named-in-None-clause-refused c e is = absurd (not_otherwise c.args.signers.now _ e c.in_ok-named.ensures is)

pub returns-in_ok-none_named-in-None-clause-refused : goal.returns-in_ok-none_named-in-None-clause-refused
returns-in_ok-none_named-in-None-clause-refused c e is = absurd (not_otherwise c.args.signers.now _ e c.in_ok-named.ensures is)
