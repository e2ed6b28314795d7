use Rattle.std.proofs.Common.{◌++◌, ◌∷◌, [], ℕ, List, Some, subst, sym}
use Rattle.std.proofs.lemmas.Bool.{iff_false}
use Rattle.trust_anchors.specs.Inside.Trails.{Continues, IsFirstOf, sought}
use Rattle.trust_anchors.proofs.Trails.{first_failed, first_kept, first_taken}
use Rattle.trust_anchors.proofs.Turns.{continues_by, continues_not}
use Rattle.trust_anchors.proofs.search.Search.earlier_before.Goals as goal

pub returns-then-not-is_before-clause-earlier : goal.returns-then-not-is_before-clause-earlier
returns-then-not-is_before-clause-earlier g c = λ trails so_far.
    first_kept (Continues (sought (g.S.Scheme.judge c.args.self.now.scheme.now) c.args.self.now) c.args.parent.now) trails c.args.trail.now c.args.first
    (iff_false c.is_before.ensures c.if-not-is_before.true) so_far

pub returns-then-not-linked-clause-earlier : goal.returns-then-not-linked-clause-earlier
returns-then-not-linked-clause-earlier g c = λ trails so_far.
    let s = sought (g.S.Scheme.judge c.args.self.now.scheme.now) c.args.self.now in
    first_failed (Continues s c.args.parent.now) trails c.args.trail.now c.args.first
    (continues_not s c.args.parent.now c.args.number c.args.trail.now c.end-end.result.now c.requires.number c.end-end.ensures
    (iff_false c.in_ok-linked.ensures.answer c.if-not-linked.true)) so_far

pub returns-clause-earlier : goal.returns-clause-earlier
returns-clause-earlier g c = λ trails so_far.
    let s = sought (g.S.Scheme.judge c.args.self.now.scheme.now) c.args.self.now in
    subst (λ (t : List ℕ). IsFirstOf (Continues s c.args.parent.now) (trails ++ c.args.trail.now ∷ []) (Some t)) (sym c.in_ok-copy.ensures)
    (first_taken (Continues s c.args.parent.now) trails c.args.trail.now c.args.first (c.is_before.ensures.0 c.if-not-is_before.false)
    (continues_by s c.args.parent.now c.args.number c.args.trail.now c.end-end.result.now c.requires.number c.end-end.ensures
    (c.in_ok-linked.ensures.answer.0 c.if-not-linked.false)) so_far)
