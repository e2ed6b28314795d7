use Rattle.std.proofs.Common.{◌≡◌, length}
use Rattle.x509_issuing.specs.Inherited.{with_others}
use Rattle.x509_issuing.proofs.builder.inheriting.push_others.Given as goal

-- with the rest appended, the list is the whole one
abbrev pub invariant-loop-extension : goal.invariant-loop-extension
invariant-loop-extension l = with_others l.fn.extensions l.fn.others ≡ with_others l.extensions l.rest

abbrev pub decreases-loop-extension : goal.decreases-loop-extension
decreases-loop-extension l = length l.rest
