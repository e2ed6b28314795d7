use Rattle.std.proofs.Common.{Err, ap, sym, subst}
use Rattle.std.proofs.lemmas.Result.{err_from_is_err_and}
use Rattle.x509_core.proofs.NoRefusal.{no_refusal, one_error}
use Rattle.x509_issuing.specs.BuiltCertificate.{IsValidityOf}
use Rattle.x509_issuing.proofs.Arguments.{some_of, subject_lacks, returned_once}
use Rattle.x509_issuing.proofs.BuiltCertificates.{not_given, no_subject, no_algorithm, built_or_refused}
use Rattle.x509_issuing.proofs.builder.CertificateBuilder.built.Goals as goal

pub returns-in_err-valid_from-clause-answer : goal.returns-in_err-valid_from-clause-answer
returns-in_err-valid_from-clause-answer g c =
    let p = err_from_is_err_and c.from_residual.result c.from_residual.ensures.1 in
    rw (p.1, p.2) (not_given (g.S.Scheme.judge c.args.scheme.now) (g.S.Scheme.signs c.args.scheme.now) (g.S.Scheme.pair c.args.scheme.now)
    c.args.self.now c.args.word c.in_err-valid_from.field-0.0 c.in_err-valid_from.ensures)

pub returns-in_err-subject-clause-answer : goal.returns-in_err-subject-clause-answer
returns-in_err-subject-clause-answer g c =
    let p = err_from_is_err_and c.from_residual-in_err-subject.result c.from_residual-in_err-subject.ensures.1 in
    let given = c.in_ok-valid_from.ensures in
    rw (p.1, p.2) (no_subject (g.S.Scheme.judge c.args.scheme.now) (g.S.Scheme.signs c.args.scheme.now) (g.S.Scheme.pair c.args.scheme.now)
    c.args.self.now c.args.word c.in_ok-valid_from.issuer.now
    c.in_ok-valid_from.valid_from c.in_ok-valid_from.valid_to given.0 given.1 given.2 c.in_err-subject.field-0.0 c.in_err-subject.ensures.answer)

pub returns-in_err-tbs-clause-answer : goal.returns-in_err-tbs-clause-answer
returns-in_err-tbs-clause-answer g c =
    let p = err_from_is_err_and c.from_residual-in_err-tbs.result c.from_residual-in_err-tbs.ensures.1 in
    let given = c.in_ok-valid_from.ensures in
    let subject = c.in_ok-subject.subject in
    rw (p.1, p.2) (no_algorithm (g.S.Scheme.judge c.args.scheme.now) (g.S.Scheme.signs c.args.scheme.now) (g.S.Scheme.pair c.args.scheme.now)
    c.args.self.now c.args.word c.in_ok-valid_from.issuer.now
    c.in_ok-valid_from.valid_from c.in_ok-valid_from.valid_to given.0 given.1 given.2 subject.own.items subject.name.name subject.key.info
    c.in_err-tbs.field-0.0 c.in_ok-subject.ensures.answer c.in_err-tbs.ensures)

pub returns-clause-answer : goal.returns-clause-answer
returns-clause-answer g c =
    let given = c.in_ok-valid_from.ensures in
    let subject = c.in_ok-subject.subject in
    let of = c.in_ok-tbs.ensures in
    built_or_refused (g.S.Scheme.judge c.args.scheme.now) (g.S.Scheme.signs c.args.scheme.now) (g.S.Scheme.pair c.args.scheme.now)
    c.args.self.now c.args.word c.in_ok-valid_from.issuer.now
    c.in_ok-valid_from.valid_from c.in_ok-valid_from.valid_to given.0 given.1 given.2 subject.own.items subject.name.name subject.key.info c.in_ok-tbs.tbs
    c.signed.result c.in_ok-subject.ensures.answer of.0
    (subst (IsValidityOf c.in_ok-valid_from.valid_from c.in_ok-valid_from.valid_to) (sym of.1) (record { begins = c.from.ensures; ends = c.from-2.ensures }))
    of.2 of.3 c.signed.ensures

pub returns-in_err-valid_from-clause-refused : goal.returns-in_err-valid_from-clause-refused
returns-in_err-valid_from-clause-refused g c = λ e first.
    let p = err_from_is_err_and c.from_residual.result c.from_residual.ensures.1 in
    rw (p.1, p.2) (ap Err (returned_once c.args.self.now c.in_err-valid_from.field-0.0 e c.in_err-valid_from.ensures first))

pub returns-in_err-subject-clause-refused : goal.returns-in_err-subject-clause-refused
returns-in_err-subject-clause-refused g c = λ e first.
    let p = err_from_is_err_and c.from_residual-in_err-subject.result c.from_residual-in_err-subject.ensures.1 in
    let given = c.in_ok-valid_from.ensures in
    rw (p.1, p.2)
    (ap Err (one_error c.in_err-subject.field-0.0 e (c.in_err-subject.ensures.refused e
    (subject_lacks c.args.self.now c.in_ok-valid_from.issuer.now e (some_of _ _ given.0) (some_of _ _ given.1) given.2 first))))

pub returns-in_err-tbs-clause-refused : goal.returns-in_err-tbs-clause-refused
returns-in_err-tbs-clause-refused g c = λ e first.
    let given = c.in_ok-valid_from.ensures in
    absurd (no_refusal c.in_ok-subject.subject e (c.in_ok-subject.ensures.refused e
    (subject_lacks c.args.self.now c.in_ok-valid_from.issuer.now e (some_of _ _ given.0) (some_of _ _ given.1) given.2 first)))

pub returns-clause-refused : goal.returns-clause-refused
returns-clause-refused g c = λ e first.
    let given = c.in_ok-valid_from.ensures in
    absurd (no_refusal c.in_ok-subject.subject e (c.in_ok-subject.ensures.refused e
    (subject_lacks c.args.self.now c.in_ok-valid_from.issuer.now e (some_of _ _ given.0) (some_of _ _ given.1) given.2 first)))
