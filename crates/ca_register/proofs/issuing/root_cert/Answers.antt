use Rattle.key_core.specs.Signing.{arithmetic}
use Rattle.ca_register.specs.Granting.{IsRootBuilder}
use Rattle.ca_register.proofs.Builders.{root_builder, root_unbuilt, takes_root}
use Rattle.ca_register.proofs.issuing.root_cert.Goals as goal

pub returns-in-Ok-clause-answer : goal.returns-in-Ok-clause-answer
returns-in-Ok-clause-answer g c = record {
  builder = c.self_signed-builder.result;
  is = root_builder c.args.grant c.args.name c.args.key c.granted.result c.self_signed-builder.result c.granted.ensures.granted c.self_signed-builder.ensures;
  built = c.in-Ok.ensures.answer;
}

pub returns-in-Ok-clause-next : goal.returns-in-Ok-clause-next
returns-in-Ok-clause-next g c = λ certificates.
    let is =
    root_builder c.args.grant c.args.name c.args.key c.granted.result c.self_signed-builder.result c.granted.ensures.granted c.self_signed-builder.ensures in
    c.in-Ok.ensures.next certificates _
    (takes_root (g.S.Scheme.pair c.args.scheme.now) c.args.grant c.args.name c.args.key.now c.self_signed-builder.result certificates is)

pub returns-in-Err-clause-answer : goal.returns-in-Err-clause-answer
returns-in-Err-clause-answer g c =
    let is =
    root_builder c.args.grant c.args.name c.args.key c.granted.result c.self_signed-builder.result c.granted.ensures.granted c.self_signed-builder.ensures in
    rw c.unbuilt.ensures (root_unbuilt (arithmetic (g.S.Scheme.judge c.args.scheme.now) (g.S.Scheme.signs c.args.scheme.now)
    (g.S.Scheme.pair c.args.scheme.now)) c.args.word (IsRootBuilder c.args.grant c.args.name c.args.key.now)
    c.self_signed-builder.result is c.in-Err.source c.in-Err.ensures.answer)
