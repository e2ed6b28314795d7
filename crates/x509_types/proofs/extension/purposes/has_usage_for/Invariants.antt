use Rattle.std.proofs.Common.{length}
use Rattle.x509_types.specs.Purposes.{HasSome, IsUsageFor}
use Rattle.x509_types.proofs.extension.purposes.has_usage_for.Given as goal

-- one of all is one of those that are left
abbrev pub invariant-loop-kid : goal.invariant-loop-kid
invariant-loop-kid l = record {
  enough : HasSome (IsUsageFor l.oid) l.kids.are.0 → HasSome (IsUsageFor l.oid) l.initial.kids.are.0;
  needed : HasSome (IsUsageFor l.oid) l.initial.kids.are.0 → HasSome (IsUsageFor l.oid) l.kids.are.0;
}

abbrev pub decreases-loop-kid : goal.decreases-loop-kid
decreases-loop-kid l = length l.kids.are.0
