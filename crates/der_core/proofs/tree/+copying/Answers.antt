use Rattle.std.proofs.Common.{ap, arith}
use Rattle.der_core.specs.DerElement.{element_count}
use Rattle.der_core.proofs.Siblings.{count-kid}
use Rattle.der_core.proofs.tree.+copying.Goals as goal

pub copies_of-copy_of-requires : goal.copies_of-copy_of-requires
copies_of-copy_of-requires t c =
    let kid = count-kid c.args.kids.now c.loop-kid.kid-index c.kid-item.result c.loop-kid-test.true in
    let same = ap element_count c.kid-item.is in
    (omega (arith, c.decreases), tt)
