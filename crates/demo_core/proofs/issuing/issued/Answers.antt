use Rattle.demo_core.specs.Certificates.{step_key_id}
use Rattle.demo_core.proofs.StepBuilders.{issued_next, issued_set}
use Rattle.demo_core.proofs.StepCerts.{answer_is}
use Rattle.demo_core.proofs.issuing.issued.Goals as goal

pub returns-clause-answer : goal.returns-clause-answer
returns-clause-answer c =
    let authority = c.in_ok-issuer_cert.ensures.identified (step_key_id c.args.issuer) c.requires.parent.identified in
    let set = issued_set c.args.index c.args.issuer c.args.step c.begun.result c.subject-builder.result _ c.in_ok-name.name c.in_ok-own.own c.args.parent.now _
    c.subject-builder.ensures c.in_ok-issuer_cert.ensures.ok c.requires.by c.begun.ensures c.in_ok-name.ensures c.in_ok-own.ensures c.requires.parent
    c.in_ok-key.ensures authority in
    answer_is c.args.index c.args.step _ _ c.build.result c.requires.small c.requires.at set c.build.ensures.answer

pub returns-clause-next : goal.returns-clause-next
returns-clause-next c =
    let authority = c.in_ok-issuer_cert.ensures.identified (step_key_id c.args.issuer) c.requires.parent.identified in
    let set = issued_set c.args.index c.args.issuer c.args.step c.begun.result c.subject-builder.result _ c.in_ok-name.name c.in_ok-own.own c.args.parent.now _
    c.subject-builder.ensures c.in_ok-issuer_cert.ensures.ok c.requires.by c.begun.ensures c.in_ok-name.ensures c.in_ok-own.ensures c.requires.parent
    c.in_ok-key.ensures authority in
    issued_next c.args.index c.args.issuer c.args.step _ c.args.parent.now _ c.build.result c.requires.by set authority c.requires.parent c.in_ok-key.ensures
    c.build.ensures.next
