use Rattle.std.proofs.Common.{◌≡◌, Some, IsSome, rules}
use Rattle.x509_issuing.specs.declared.builder.SubjectInfos.TheVariants as subjects
use Rattle.x509_issuing.proofs.Subjects.{requested_or_refused}
use Rattle.x509_issuing.proofs.builder.CertificateBuilder.other_subject.Goals as goal

pub returns-in-Some-Request-clause-answer : goal.returns-in-Some-Request-clause-answer
returns-in-Some-Request-clause-answer g c =
    let some : IsSome c.args.self.now.authority_key_identifier = search rules in
    let given : c.args.self.now.subject_infos ≡ Some (subjects.Request c.in-Some-Request.csr) = search rules in
    requested_or_refused (g.S.Scheme.judge c.args.scheme.now) c.args.self.now c.in-Some-Request.csr c.requested.result some given c.requested.ensures
