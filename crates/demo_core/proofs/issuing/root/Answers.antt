use Rattle.demo_core.proofs.StepBuilders.{root_next, root_set}
use Rattle.demo_core.proofs.StepCerts.{answer_is}
use Rattle.demo_core.proofs.issuing.root.Goals as goal

pub returns-clause-answer : goal.returns-clause-answer
returns-clause-answer c =
    let set = root_set c.args.index c.args.step c.begun.result c.self_signed-builder.result c.in_ok-name.name _ c.self_signed-builder.ensures
    c.requires.unissued c.begun.ensures c.in_ok-name.ensures c.in_ok-key.ensures in
    answer_is c.args.index c.args.step c.self_signed-builder.result _ c.build.result c.requires.small c.requires.at set c.build.ensures.answer

pub returns-clause-next : goal.returns-clause-next
returns-clause-next c =
    let set = root_set c.args.index c.args.step c.begun.result c.self_signed-builder.result c.in_ok-name.name _ c.self_signed-builder.ensures
    c.requires.unissued c.begun.ensures c.in_ok-name.ensures c.in_ok-key.ensures in
    root_next c.args.index c.args.step c.self_signed-builder.result _ _ c.build.result c.requires.unissued set c.build.ensures.next
