use Rattle.std.proofs.Common.{rules, arith}
use Rattle.der_core.proofs.Heads.{sound_taken}
use Rattle.der_core.proofs.header.sound_head.Goals as goal

pub returns : goal.returns
returns c =
    let form = c.in_ok-is_constructed.ensures in (
      sound_taken c.args.octets.now c.in_ok-tag.tag.now c.in_ok-tag.after.now c.in_ok-contents.contents.now c.in_ok-contents.rest.now (search rules)
          (λ i. omega (arith, c.type_inv.octets i)) c.in_ok-contents.ensures form.0,
      form.1,
    )
