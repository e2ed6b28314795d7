use Rattle.std.proofs.Common.{◌≡◌, rules, Ok, arith}
use Rattle.der_core.specs.Head.{head_at}
use Rattle.der_core.proofs.Heads.{head_taken, known_length_there, known_head_is, none_begins}
use Rattle.der_core.proofs.InOctets.{no_length}
use Rattle.der_core.proofs.header.known_head.Goals as goal

pub unreachable-requires : goal.unreachable-requires
unreachable-requires c = none_begins c.args.octets.now (no_length _ (search rules)) c.requires

pub known_length-length-requires : goal.known_length-length-requires
known_length-length-requires c = known_length_there c.args.octets.now c.in-Some.tag.now c.in-Some.after.now (search rules) c.requires

pub split_at-requires : goal.split_at-requires
split_at-requires c = (known_head_is c.args.octets.now c.in-Some.tag.now c.in-Some.after.now _ _ (search rules) c.requires c.known_length-length.ensures).enough

pub returns : goal.returns
returns c =
    let tag = c.in-Some.tag.now in
    let known = known_head_is c.args.octets.now tag c.in-Some.after.now _ _ (search rules) c.requires c.known_length-length.ensures in
    let read : head_at 64 c.args.octets.now ≡ Ok (tag, c.split_at.result.0.now, c.split_at.result.1.now) =
    rw (c.split_at.ensures.front, c.split_at.ensures.back) known.read in
    (read, head_taken 64 c.args.octets.now tag _ _ (λ i. omega (arith, c.type_inv.octets i)) read)
