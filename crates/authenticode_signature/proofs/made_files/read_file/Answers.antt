use Rattle.std.proofs.Common.{Err, ap}
use Rattle.std.proofs.lemmas.Result.{err_from_is_err_and}
use Rattle.authenticode_core.specs.ContentRefusal.{of_header}
use Rattle.x509_core.proofs.NoRefusal.{no_refusal, one_error}
use Rattle.authenticode_signature.proofs.ReadFiles.{no_header, unread_file}
use Rattle.authenticode_signature.proofs.made_files.read_file.Goals as goal

pub returns-in_err-wrapped-clause-answer : goal.returns-in_err-wrapped-clause-answer
returns-in_err-wrapped-clause-answer c =
    let p = err_from_is_err_and c.from_residual.result c.from_residual.ensures.1 in
    rw (p.1, p.2) (no_header c.args.octets.now c.in_err-wrapped.field-0.0 c.in_err-wrapped.ensures.answer)

pub returns-in_err-signature-clause-answer : goal.returns-in_err-signature-clause-answer
returns-in_err-signature-clause-answer c =
    let p = err_from_is_err_and c.from_residual-in_err-signature.result c.from_residual-in_err-signature.ensures.1 in
    rw p.1 (unread_file c.args.octets.now c.in_ok-wrapped.wrapped.certificate c.in_err-signature.field-0.0 p.0 p.2 c.in_ok-wrapped.ensures.answer
    c.in_err-signature.ensures.answer)

pub returns-in_err-wrapped-clause-refused : goal.returns-in_err-wrapped-clause-refused
returns-in_err-wrapped-clause-refused c = λ source refuses.
    let p = err_from_is_err_and c.from_residual.result c.from_residual.ensures.1 in
    rw (p.1, p.2) (ap Err (one_error c.in_err-wrapped.field-0.0 (of_header source) (c.in_err-wrapped.ensures.refused source refuses)))

pub returns-in_err-signature-clause-refused : goal.returns-in_err-signature-clause-refused
returns-in_err-signature-clause-refused c = λ source refuses. absurd (no_refusal _ _ (c.in_ok-wrapped.ensures.refused source refuses))

pub returns-clause-refused : goal.returns-clause-refused
returns-clause-refused c = λ source refuses. absurd (no_refusal _ _ (c.in_ok-wrapped.ensures.refused source refuses))
