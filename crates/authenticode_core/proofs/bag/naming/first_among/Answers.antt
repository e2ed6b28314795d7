use Rattle.authenticode_core.proofs.NamedMembers.{unnamed_yet, unnamed_step, named_first, unnamed_all}
use Rattle.authenticode_core.proofs.bag.naming.first_among.Goals as goal

pub loop-member-init : goal.loop-member-init
loop-member-init c = λ bag p. unnamed_yet _ bag _ p

pub returns-in-Some-named_at-clause-is : goal.returns-in-Some-named_at-clause-is
returns-in-Some-named_at-clause-is c = c.in-Some-named_at.ensures.0.is

pub returns-in-Some-named_at-clause-first : goal.returns-in-Some-named_at-clause-first
returns-in-Some-named_at-clause-first c = λ bag p.
    named_first _ _ _ bag _ _ c.in-Some.ensures c.in-Some-named_at.ensures.0 c.in-Some-named_at.ensures.1 (c.loop-member.invariant bag p)

pub loop-member-preserved : goal.loop-member-preserved
loop-member-preserved c = λ bag p. unnamed_step _ _ _ bag _ c.in-Some.ensures c.in_default-named_at.ensures (c.loop-member.invariant bag p)

pub returns-clause-first : goal.returns-clause-first
returns-clause-first c = λ bag p. unnamed_all _ bag _ c.in_default.ensures.0 (c.loop-member.invariant bag p)
