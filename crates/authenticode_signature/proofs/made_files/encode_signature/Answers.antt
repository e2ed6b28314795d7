use Rattle.std.proofs.Common.{inl, ◌∙◌}
use Rattle.std.proofs.lemmas.Result.{err_from_is_err_and}
use Rattle.authenticode_signature.specs.Pkcs7.{written}
use Rattle.authenticode_signature.proofs.ReadFiles.{file_or_refused, unwrapped_file}
use Rattle.authenticode_signature.proofs.made_files.encode_signature.Goals as goal

pub returns-in_err-der : goal.returns-in_err-der
returns-in_err-der c =
    let p = err_from_is_err_and c.from_residual.result c.from_residual.ensures.1 in
    rw p.1 (inl (c.in_err-der.field-0.0, p.2, c.in_err-der.ensures))

pub returns-in_err-wrapped : goal.returns-in_err-wrapped
returns-in_err-wrapped c =
    let p = err_from_is_err_and c.from_residual-in_err-wrapped.result c.from_residual-in_err-wrapped.ensures.1 in
    let der = c.in_ok-der.ensures in
    rw (p.1, p.2) (unwrapped_file c.deref.result.now (written c.args.signature.now.0) c.args.certificate_type c.in_err-wrapped.field-0.0 der.1
    (c.deref.ensures.value ∙ der.0) c.in_err-wrapped.ensures)

pub returns : goal.returns
returns c =
    let der = c.in_ok-der.ensures in
    file_or_refused c.deref.result.now (written c.args.signature.now.0) c.args.certificate_type c.in_ok-wrapped.wrapped c.spell.result der.1
    (c.deref.ensures.value ∙ der.0) c.in_ok-wrapped.ensures c.spell.ensures
