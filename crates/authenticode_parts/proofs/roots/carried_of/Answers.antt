use Rattle.authenticode_parts.proofs.SortedCertificates.{others_of}
use Rattle.authenticode_parts.proofs.roots.carried_of.Goals as goal

pub returns-else-bag-eq1 : goal.returns-else-bag-eq1
returns-else-bag-eq1 c = others_of c.args.bag.now c.without_roots.result c.if-bag-eq1.false c.without_roots.ensures
