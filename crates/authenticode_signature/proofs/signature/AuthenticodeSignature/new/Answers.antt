use Rattle.std.proofs.Common.{List, Err, inl, sym, ap, subst, ◌∙◌}
use Rattle.std.proofs.lemmas.Result.{err_from_is_err_and}
use Rattle.std.specs.Option.{option_copied}
use Rattle.cms_types.specs.OpusInfo.{opus_info}
use Rattle.x509_core.specs.OwnedCertificate.{KeptCertificate}
use Rattle.authenticode_core.specs.SigningRules.{IsBagOf}
use Rattle.x509_core.proofs.NoRefusal.{one_error}
use Rattle.authenticode_core.specs.declared.error.AuthenticodeError.TheVariants as errors
use Rattle.authenticode_parts.specs.SignedProgram.{program_of}
use Rattle.authenticode_parts.specs.Carried.{elements_of}
use Rattle.authenticode_signature.specs.Making.{HasNoFirstForSigning, IsFirstForSigning}
use Rattle.authenticode_signature.specs.Pkcs7.{fields_of}
use Rattle.authenticode_signature.proofs.MadeFiles.{made_file}
use Rattle.authenticode_signature.proofs.MadeSteps.{made_as, no_hash, no_name, no_signer, not_signed_as}
use Rattle.authenticode_signature.proofs.signature.AuthenticodeSignature.new.Goals as goal

pub returns-in_err-opus-clause-answer : goal.returns-in_err-opus-clause-answer
returns-in_err-opus-clause-answer g c =
    let p = err_from_is_err_and c.from_residual.result c.from_residual.ensures.1 in
    let name = option_copied c.args.program_name in
    rw (p.1, p.2) (no_name (g.S.Scheme.signs c.args.scheme.now) (fields_of c.args.pkcs7.now) name (program_of c.args.hash_algo c.args.file_hash.now name)
    c.args.private_key.now c.in_err-opus.field-0.0 c.in_err-opus.ensures.answer)

pub returns-in_err-algorithm-clause-answer : goal.returns-in_err-algorithm-clause-answer
returns-in_err-algorithm-clause-answer g c =
    let p = err_from_is_err_and c.from_residual-in_err-algorithm.result c.from_residual-in_err-algorithm.ensures.1 in
    let name = option_copied c.args.program_name in
    rw (p.1, p.2) (no_hash (g.S.Scheme.signs c.args.scheme.now) (fields_of c.args.pkcs7.now) name (program_of c.args.hash_algo c.args.file_hash.now name)
    c.args.private_key.now c.in_err-algorithm.field-0.0
    c.in_ok-opus.ensures.answer.1 (inl c.in_err-algorithm.ensures.answer))

pub returns-in_err-first-clause-answer : goal.returns-in_err-first-clause-answer
returns-in_err-first-clause-answer g c =
    let p = err_from_is_err_and c.from_residual-in_err-first.result c.from_residual-in_err-first.ensures.1 in
    let name = option_copied c.args.program_name in
    rw (p.1, p.2) (no_signer (g.S.Scheme.signs c.args.scheme.now) (fields_of c.args.pkcs7.now) name (program_of c.args.hash_algo c.args.file_hash.now name)
    c.args.private_key.now c.in_err-first.field-0.0
    (elements_of c.in_ok-bag.bag.items) c.in_ok-opus.ensures.answer.1 c.in_ok-algorithm.ensures.answer.1 c.in_ok-bag.ensures
    (subst (λ (ks : List KeptCertificate). HasNoFirstForSigning (elements_of ks) c.in_err-first.field-0.0) c.deref.ensures.value c.in_err-first.ensures))

pub returns-in_err-made-clause-answer : goal.returns-in_err-made-clause-answer
returns-in_err-made-clause-answer g c =
    let p = err_from_is_err_and c.from_residual-in_err-made.result c.from_residual-in_err-made.ensures.1 in
    let name = option_copied c.args.program_name in
    let list = c.deref.ensures.value in
    rw (p.1, p.2) (not_signed_as (g.S.Scheme.signs c.args.scheme.now) (fields_of c.args.pkcs7.now) name c.args.hash_algo c.args.file_hash.now
    (opus_info c.in_ok-opus.opus) c.args.private_key.now c.in_err-made.field-0.0
    (elements_of c.deref.result.now) c.in_ok-first.first.now.elements c.in_ok-opus.ensures.answer.0 c.in_ok-opus.ensures.answer.1
    c.in_ok-algorithm.ensures.answer.1
    (subst (λ (ks : List KeptCertificate). IsBagOf (fields_of c.args.pkcs7.now) (elements_of ks)) (sym list) c.in_ok-bag.ensures) c.in_ok-first.ensures
    c.in_err-made.ensures)

pub returns-clause-answer : goal.returns-clause-answer
returns-clause-answer g c =
    let list = c.deref.ensures.value in
    let other = c.deref-2.ensures.value in
    made_as (g.S.Scheme.judge c.args.scheme.now) (g.S.Scheme.signs c.args.scheme.now) (g.S.Scheme.pair c.args.scheme.now) (fields_of c.args.pkcs7.now)
    (option_copied c.args.program_name) c.args.hash_algo c.args.file_hash.now (opus_info c.in_ok-opus.opus)
    c.args.private_key.now (elements_of c.deref-2.result.now) c.in_ok-first.first.now.elements (fields_of c.in_ok-made.made)
    c.in_ok-opus.ensures.answer.0 c.in_ok-opus.ensures.answer.1 c.in_ok-algorithm.ensures.answer.1
    (subst (λ (ks : List KeptCertificate). IsBagOf (fields_of c.args.pkcs7.now) (elements_of ks)) (sym other) c.in_ok-bag.ensures)
    (subst (λ (ks : List KeptCertificate). IsFirstForSigning (elements_of ks) c.in_ok-first.first.now.elements) (list ∙ sym other) c.in_ok-first.ensures)
    c.in_ok-made.ensures.0 c.in_ok-made.ensures.1

-- ---- the file of the signature

pub returns-clause-file : goal.returns-clause-file
returns-clause-file g c =
    made_file (g.S.Scheme.judge c.args.scheme.now) (g.S.Scheme.signs c.args.scheme.now) (g.S.Scheme.pair c.args.scheme.now) (fields_of c.args.pkcs7.now)
    c.args.hash_algo c.args.file_hash.now (option_copied c.args.program_name)
    c.args.private_key.now c.in_ok-made.made.signed (returns-clause-answer g c)

-- ---- what is reported even when memory runs out

pub returns-in_err-opus-clause-refused : goal.returns-in_err-opus-clause-refused
returns-in_err-opus-clause-refused g c = λ no.
    let p = err_from_is_err_and c.from_residual.result c.from_residual.ensures.1 in
    rw (p.1, p.2) (ap Err (one_error c.in_err-opus.field-0.0 errors.ProgramNameCharSet (c.in_err-opus.ensures.refused no)))

pub returns-in_err-algorithm-clause-refused : goal.returns-in_err-algorithm-clause-refused
returns-in_err-algorithm-clause-refused g c = λ no. absurd (no c.in_ok-opus.ensures.answer.1)

pub returns-in_err-bag-clause-refused : goal.returns-in_err-bag-clause-refused
returns-in_err-bag-clause-refused g c = λ no. absurd (no c.in_ok-opus.ensures.answer.1)

pub returns-in_err-first-clause-refused : goal.returns-in_err-first-clause-refused
returns-in_err-first-clause-refused g c = λ no. absurd (no c.in_ok-opus.ensures.answer.1)

pub returns-in_err-made-clause-refused : goal.returns-in_err-made-clause-refused
returns-in_err-made-clause-refused g c = λ no. absurd (no c.in_ok-opus.ensures.answer.1)

pub returns-clause-refused : goal.returns-clause-refused
returns-clause-refused g c = λ no. absurd (no c.in_ok-opus.ensures.answer.1)

pub returns-in_err-opus-clause-unsupported : goal.returns-in_err-opus-clause-unsupported
returns-in_err-opus-clause-unsupported g c = λ nameless sha. let no = c.in_err-opus.ensures.nameless nameless in absurd cc

pub returns-in_err-algorithm-clause-unsupported : goal.returns-in_err-algorithm-clause-unsupported
returns-in_err-algorithm-clause-unsupported g c = λ nameless sha.
    let p = err_from_is_err_and c.from_residual-in_err-algorithm.result c.from_residual-in_err-algorithm.ensures.1 in
    rw (p.1, p.2) (ap Err c.in_err-algorithm.ensures.returned)

pub returns-in_err-bag-clause-unsupported : goal.returns-in_err-bag-clause-unsupported
returns-in_err-bag-clause-unsupported g c = λ nameless sha. absurd (c.in_ok-algorithm.ensures.answer.1 sha)

pub returns-in_err-first-clause-unsupported : goal.returns-in_err-first-clause-unsupported
returns-in_err-first-clause-unsupported g c = λ nameless sha. absurd (c.in_ok-algorithm.ensures.answer.1 sha)

pub returns-in_err-made-clause-unsupported : goal.returns-in_err-made-clause-unsupported
returns-in_err-made-clause-unsupported g c = λ nameless sha. absurd (c.in_ok-algorithm.ensures.answer.1 sha)

pub returns-clause-unsupported : goal.returns-clause-unsupported
returns-clause-unsupported g c = λ nameless sha. absurd (c.in_ok-algorithm.ensures.answer.1 sha)
