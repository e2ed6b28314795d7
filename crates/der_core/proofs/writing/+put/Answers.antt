use Rattle.std.proofs.Common.{◌-◌, subst, sym, ap, arith}
use Rattle.std.proofs.lemmas.Result.{err_from_is_err_and}
use Rattle.der_core.specs.DerElement.{element_count, row}
use Rattle.der_core.specs.Encoding.{IsShort, AreShort}
use Rattle.der_core.proofs.Siblings.{count-kid, IsShort-kid}
use Rattle.der_core.proofs.Refusals.{RefusesLong-whole}
use Rattle.der_core.proofs.writing.+put.Goals as goal

pub put_elements-put_element-requires : goal.put_elements-put_element-requires
put_elements-put_element-requires t c =
    let kid = count-kid c.args.kids.now (c.loop-i.i - 1) c.index-kids-i.result (omega arith) in
    let same = ap element_count c.index-kids-i.is in
    (omega arith, tt)

pub put_elements-returns-in_err-put_element : goal.put_elements-returns-in_err-put_element
put_elements-returns-in_err-put_element t c =
    let p = err_from_is_err_and c.from_residual.result c.from_residual.ensures.1 in
    let kid = λ (w : AreShort (row c.args.kids.now)). subst IsShort (sym c.index-kids-i.is)
    (IsShort-kid c.args.kids.now (c.loop-i.i - 1) c.index-kids-i.result (omega arith) w) in
    rw (p.1, p.2) (RefusesLong-whole kid _ c.in_err-put_element.ensures)
