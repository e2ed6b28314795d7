use Rattle.xgolden_der.proofs.Cursors.{fewer_left, of_some}
use Rattle.xgolden_der.proofs.answer.push_elements.Goals as goal

pub loop-elem-smaller : goal.loop-elem-smaller
loop-elem-smaller c =
    let there = c.loop-elem.cursor in
    let next = c.in-Ok-Some in
    fewer_left there.level there.place c.next.new.self.place there.rest.now next.elem.whole.now c.next.new.self.rest.now next.elem.is.0
    (of_some _ _ next.elem next.field-0-is next.ensures.given) (of_some _ _ next.elem next.field-0-is next.ensures.moved)
