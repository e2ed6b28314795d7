use Rattle.std.proofs.Common.{rules}
use Rattle.pe_core.proofs.Tables.{none_left, left_behind, next_are}
use Rattle.pe_core.proofs.entries.Entries.next.Goals as goal

pub returns-in_default : goal.returns-in_default
returns-in_default c =
    let none = none_left c.args.self.now.rest.now c.args.self.now.are c.in_default.ensures in
    (none, none)

pub invariant_of-self : goal.invariant_of-self
invariant_of-self c =
    let parts = c.in-Some in
    let rest = c.without_padding-self in
    let left =
    left_behind c.args.self.now.rest.now c.args.self.now.are parts.whole.now parts.behind.now rest.result.now
    parts.ensures.0 parts.ensures.1 rest.ensures.last rest.ensures.more in
    record { are = (left.0, left.2) }

pub returns : goal.returns
returns c =
    let parts = c.in-Some in
    let rest = c.without_padding-self in
    next_are c.args.self.now.rest.now c.args.self.now.are parts.whole.now parts.behind.now rest.result.now _
    parts.ensures.0 parts.ensures.1 rest.ensures.last rest.ensures.more (search rules)
