use Rattle.std.proofs.Common.{◌≡◌, length}
use Rattle.x509_issuing.specs.Inherited.{asked_first}
use Rattle.x509_issuing.proofs.csr.asking.asked_first.Given as goal

-- the rest asks for what all ask for
abbrev pub invariant-loop-attribute : goal.invariant-loop-attribute
invariant-loop-attribute l = asked_first l.fn.attributes ≡ asked_first l.rest

abbrev pub decreases-loop-attribute : goal.decreases-loop-attribute
decreases-loop-attribute l = length l.rest
