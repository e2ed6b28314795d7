use Rattle.x509_issuing.proofs.Arguments.{asked_of_other, nothing_asked}
use Rattle.x509_issuing.proofs.Subjects.{own_or_refused, other_or_refused}
use Rattle.x509_issuing.proofs.builder.CertificateBuilder.subject_of.Goals as goal

pub returns-then-issuer-clause-answer : goal.returns-then-issuer-clause-answer
returns-then-issuer-clause-answer g c =
    own_or_refused (g.S.Scheme.judge c.args.scheme.now) c.args.issuer.now.self_signed c.args.self.now c.args.issuer.now c.own_subject.result c.if-issuer.true
    c.own_subject.ensures

pub returns-else-issuer-clause-answer : goal.returns-else-issuer-clause-answer
returns-else-issuer-clause-answer g c =
    other_or_refused (g.S.Scheme.judge c.args.scheme.now) c.args.issuer.now.self_signed c.args.self.now c.args.issuer.now c.other_subject.result
    c.if-issuer.false c.other_subject.ensures.answer

pub returns-then-issuer-clause-refused : goal.returns-then-issuer-clause-refused
returns-then-issuer-clause-refused g c = λ e first. absurd (nothing_asked c.args.issuer.now.self_signed c.args.self.now e c.if-issuer.true first)

pub returns-else-issuer-clause-refused : goal.returns-else-issuer-clause-refused
returns-else-issuer-clause-refused g c = λ e first.
    c.other_subject.ensures.refused e (asked_of_other c.args.issuer.now.self_signed c.args.self.now e c.if-issuer.false first)
