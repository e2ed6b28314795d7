use Rattle.std.proofs.Common.{◌+◌, ◌∷◌, length, map, sym, ap, arith}
use Rattle.std.specs.Prelude.{string_bytes}
use Rattle.std.proofs.lemmas.List.{length-map}
use Rattle.std.proofs.lemmas.Result.{IfOk-weaker}
use Rattle.program_frame.specs.Owned.{contents_held}
use Rattle.trust_anchors.specs.Commands.{certificates_in}
use Rattle.trust_anchors.specs.OwnedCommand.{command_held}
use Rattle.trust_anchors.proofs.Answered.{found_answer}
use Rattle.trust_anchors.proofs.ReadFiles.{count_pool}
use Rattle.trust_anchors.proofs.answering.answer_by.Goals as goal

pub search-requires : goal.search-requires
search-requires g c =
    let command = c.args.asked.now in
    let octets = c.parts.result.1.now ∷ map (λ octets. octets.items) c.parts.result.2.now in
    let pool = count_pool (command.more + 1) octets c.in-Ok.ensures.read.0 c.in-Ok.given.checked c.in-Ok.given.pool.items c.in-Ok.ensures.read.2 in
    let names = length-map command.certificates.now string_bytes in
    omega (arith, pool, names, c.requires, ap length c.parts.ensures, command.most_anchors, command.most_in_pool)

pub returns-in-Ok-clause-answer : goal.returns-in-Ok-clause-answer
returns-in-Ok-clause-answer g c =
    let octets = c.parts.result.1.now ∷ map (λ octets. octets.items) c.parts.result.2.now in
    IfOk-weaker c.search.result _ _ (λ answer h. found_answer (g.S.Scheme.judge c.args.scheme.now) (command_held c.args.asked.now) octets
    (certificates_in (contents_held c.args.read.now)) c.in-Ok.given.anchors c.in-Ok.given.checked c.in-Ok.given.pool.items answer
    (sym (ap certificates_in c.parts.ensures)) c.in-Ok.ensures.read h) c.search.ensures.found
