use Rattle.std.proofs.Common.{[]}
use Rattle.x509_types.proofs.extension.first.FirstExtensions.of.Goals as goal

pub returns-in-Some : goal.returns-in-Some
returns-in-Some c = rw c.in-Some.ensures (c.with_all.ensures _ (c.none-firsts.ensures _))

pub returns-in-None : goal.returns-in-None
returns-in-None c = rw c.in-None.ensures (c.none-firsts.ensures [])
