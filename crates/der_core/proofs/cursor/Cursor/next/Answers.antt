use Rattle.std.proofs.Common.{◌++◌, Err, refl, ap, sym, ◌∙◌, arith, rules}
use Rattle.std.proofs.lemmas.Result.{err_from_is_err_and}
use Rattle.der_core.proofs.Cursors.{first_length, none_first, tested_after}
use Rattle.der_core.specs.Encoding.{encoding}
use Rattle.der_core.proofs.Elements.{first_once, first_parts}
use Rattle.der_core.proofs.Exact.{no_fault_where_first}
use Rattle.der_core.proofs.Faults.{refused_from}
use Rattle.der_core.proofs.cursor.Cursor.next.Goals as goal

pub returns-then-is_empty-clause-only : goal.returns-then-is_empty-clause-only
returns-then-is_empty-clause-only c = λ element n begins. absurd (none_first c.args.self.now.rest.now element n (search rules) begins.first)

pub returns-in_err-elem-clause-only : goal.returns-in_err-elem-clause-only
returns-in_err-elem-clause-only c =
    λ element n begins. absurd (no_fault_where_first c.args.self.now.rest.now element n _ _ begins.first c.in_err-elem.ensures.1.2)

pub returns-in_err-elem-clause-faulty : goal.returns-in_err-elem-clause-faulty
returns-in_err-elem-clause-faulty c = λ k fault some there.
    let p = err_from_is_err_and c.from_residual.result c.from_residual.ensures.1 in
    rw (p.1, p.2) (ap Err (refused_from c.args.self.now.rest.now c.args.self.now.place k fault c.in_err-elem.field-0.0 there c.in_err-elem.ensures.1))

pub invariant_of-self : goal.invariant_of-self
invariant_of-self c =
    let first = c.in_ok-elem.ensures.first in
    let parts = first_parts _ _ _ first ∙ ap (λ rest. encoding c.in_ok-elem.elem.is.0 ++ rest) (sym c.split_at.ensures.back) in
    record {
      placed = omega (arith, first_length _ _ _ first, c.split_at.ensures.back_len, c.args.self.now.placed);
      leveled = c.args.self.now.leveled;
      tested = tested_after c.args.self.now.level c.args.self.now.rest.now _ _ c.args.self.now.tested first.der parts;
    }

pub returns-clause-only : goal.returns-clause-only
returns-clause-only c = λ element n begins.
    let same = (first_once c.args.self.now.rest.now _ element _ n c.in_ok-elem.ensures.first begins.first).0 in
    (refl, (λ none. absurd cc, same))

pub returns-clause-faulty : goal.returns-clause-faulty
returns-clause-faulty c = λ k fault some there. absurd (no_fault_where_first c.args.self.now.rest.now _ _ k fault c.in_ok-elem.ensures.first there)
