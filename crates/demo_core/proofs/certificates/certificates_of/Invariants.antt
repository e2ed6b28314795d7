use Rattle.demo_core.specs.Issuing.{AreStepCerts}
use Rattle.demo_core.proofs.certificates.certificates_of.Given as goal

-- the certificates of the steps so far
abbrev pub invariant-loop-k : goal.invariant-loop-k
invariant-loop-k l = AreStepCerts l.steps l.k l.certificates.items
