use Rattle.ca_register.specs.Authorities.{IsRegister}
use Rattle.der_core.specs.Counting.{IsCount}
use Rattle.ca_register.specs.Counting.{IsAcceptedAt, IsUsableAt}
use Rattle.ca_register.proofs.counting.accepted_count.Given as goal

-- those that are accepted so far
abbrev pub invariant-loop-place : goal.invariant-loop-place
invariant-loop-place g l = record {
  usable : IsCount (IsUsableAt l.register.entries.items l.date) l.place l.accepted;
  accepted : IsRegister (g.S.Scheme.judge l.register.scheme) l.register.entries.items l.register.certificates.items
      → IsCount (IsAcceptedAt (g.S.Scheme.judge l.register.scheme) l.register.entries.items l.register.certificates.items l.date) l.place l.accepted;
}
