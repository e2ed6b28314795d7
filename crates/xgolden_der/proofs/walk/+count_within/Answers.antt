use Rattle.std.proofs.Common.{arith}
use Rattle.xgolden_der.proofs.Cursors.{fewer_left, of_some}
use Rattle.xgolden_der.proofs.walk.+count_within.Goals as goal

pub loop-elem-init : goal.loop-elem-init
loop-elem-init t c = omega (arith, c.in-Some.ensures)

pub count_within-requires : goal.count_within-requires
count_within-requires t c = (omega (arith, c.loop-elem.invariant, c.decreases), tt)

pub loop-elem-smaller-in-Some-kids : goal.loop-elem-smaller-in-Some-kids
loop-elem-smaller-in-Some-kids t c =
    let there = c.loop-elem.cursor in
    let elem = c.in-Some-2.elem in
    fewer_left there.level there.place c.next.new.self.place there.rest.now elem.whole.now c.next.new.self.rest.now elem.is.0
    (of_some _ _ elem c.in-Some-2.is c.in_ok-elem.ensures.given) (of_some _ _ elem c.in-Some-2.is c.in_ok-elem.ensures.moved)

pub loop-elem-smaller : goal.loop-elem-smaller
loop-elem-smaller t c =
    let there = c.loop-elem.cursor in
    let elem = c.in-Some-2.elem in
    fewer_left there.level there.place c.next.new.self.place there.rest.now elem.whole.now c.next.new.self.rest.now elem.is.0
    (of_some _ _ elem c.in-Some-2.is c.in_ok-elem.ensures.given) (of_some _ _ elem c.in-Some-2.is c.in_ok-elem.ensures.moved)
