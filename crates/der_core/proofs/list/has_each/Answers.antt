use Rattle.std.proofs.Common.{rules}
use Rattle.der_core.proofs.Several.{first_fits, rest_each}
use Rattle.der_core.proofs.list.has_each.Goals as goal

pub loop-kid-preserved : goal.loop-kid-preserved
loop-kid-preserved g c = record {
  enough = λ more. first_fits g.T.Structure.spells _ _ _ _ c.loop-kid.invariant.enough c.in-Some.ensures (c.has_shape.ensures.fits (search rules)) more;
  needed = λ fits. (rest_each g.T.Structure.spells _ _ _ c.in-Some.ensures (c.loop-kid.invariant.needed fits)).1;
}
