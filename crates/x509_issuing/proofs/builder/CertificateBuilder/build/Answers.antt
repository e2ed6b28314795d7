use Rattle.x509_issuing.proofs.BuiltCertificates.{all_distinct, constrained, identified, signed_by_parents}
use Rattle.x509_issuing.proofs.BuiltSteps.{next_of}
use Rattle.x509_issuing.proofs.builder.CertificateBuilder.build.Goals as goal

pub returns-clause-linked : goal.returns-clause-linked
returns-clause-linked g c =
    signed_by_parents (g.S.Scheme.judge c.args.scheme.now) (g.S.Scheme.signs c.args.scheme.now) (g.S.Scheme.pair c.args.scheme.now)
    c.args.self c.args.word c.built.result _ c.built.ensures.answer

pub returns-clause-distinct : goal.returns-clause-distinct
returns-clause-distinct g c =
    all_distinct (g.S.Scheme.judge c.args.scheme.now) (g.S.Scheme.signs c.args.scheme.now) (g.S.Scheme.pair c.args.scheme.now)
    c.args.self c.args.word c.built.result _ c.built.ensures.answer

pub returns-clause-constrained : goal.returns-clause-constrained
returns-clause-constrained g c =
    constrained (g.S.Scheme.judge c.args.scheme.now) (g.S.Scheme.signs c.args.scheme.now) (g.S.Scheme.pair c.args.scheme.now)
    c.args.self c.args.word c.built.result _ c.built.ensures.answer

pub returns-clause-identified : goal.returns-clause-identified
returns-clause-identified g c =
    identified (g.S.Scheme.judge c.args.scheme.now) (g.S.Scheme.signs c.args.scheme.now) (g.S.Scheme.pair c.args.scheme.now)
    c.args.self c.args.word c.built.result _ c.built.ensures.answer

pub returns-clause-next : goal.returns-clause-next
returns-clause-next g c =
    next_of (g.S.Scheme.judge c.args.scheme.now) (g.S.Scheme.signs c.args.scheme.now) (g.S.Scheme.pair c.args.scheme.now)
    c.args.self c.args.word c.built.result _ c.built.ensures.answer
