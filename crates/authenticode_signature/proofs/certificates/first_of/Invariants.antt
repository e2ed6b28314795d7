use Rattle.std.proofs.Common.{◌≡◌, length}
use Rattle.authenticode_signature.specs.Walk.{walked}
use Rattle.authenticode_signature.proofs.certificates.first_of.Given as goal

-- the passed certificates yield nothing
abbrev pub invariant-loop-certificate : goal.invariant-loop-certificate
invariant-loop-certificate l = walked l.subject l.rest ≡ walked l.subject l.fn.certificates

abbrev pub decreases-loop-certificate : goal.decreases-loop-certificate
decreases-loop-certificate l = length l.rest
