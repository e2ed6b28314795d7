use Rattle.std.proofs.Common.{sym, subst}
use Rattle.sha2.specs.Hashers.{Holds256}
use Rattle.demo_core.proofs.Whole.{octets_before, octets_more}
use Rattle.demo_core.proofs.demonstration.sum_of.Goals as goal

pub loop-k-preserved : goal.loop-k-preserved
loop-k-preserved c =
    let certificates = c.args.certificates.now in
    subst (Holds256 c.update.new.self) (sym (octets_more certificates c.loop-k.k c.octets_at.result.now c.loop-k-test.true c.octets_at.ensures))
    (c.update.ensures (octets_before certificates c.loop-k.k) c.loop-k.invariant)
