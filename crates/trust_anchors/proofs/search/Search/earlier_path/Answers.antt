use Rattle.std.proofs.Common.{ℕ, Option, subst}
use Rattle.std.proofs.lemmas.Bool.{iff_false}
use Rattle.trust_anchors.specs.Inside.Trails.{IsFirstAnchor, sought}
use Rattle.trust_anchors.proofs.Turns.{path_failed, path_kept, path_taken}
use Rattle.trust_anchors.proofs.search.Search.earlier_path.Goals as goal

pub returns-then-not-is_before_path-clause-earlier : goal.returns-then-not-is_before_path-clause-earlier
returns-then-not-is_before_path-clause-earlier g c = λ trails so_far.
    path_kept (sought (g.S.Scheme.judge c.args.self.now.scheme.now) c.args.self.now) trails c.args.trail.now c.args.first
    (iff_false c.is_before_path.ensures c.if-not-is_before_path.true) so_far

pub returns-in-None-clause-earlier : goal.returns-in-None-clause-earlier
returns-in-None-clause-earlier g c = λ trails so_far.
    let s = sought (g.S.Scheme.judge c.args.self.now.scheme.now) c.args.self.now in
    path_failed s trails c.args.trail.now c.args.first c.args.number c.end-end.result.now c.requires.number c.end-end.ensures
    (subst (λ (o : Option ℕ). IsFirstAnchor s c.args.number c.end-end.result.now o) c.in-None.is c.in_ok-found.ensures.found) so_far

pub returns-in_ok-pool-in-Some-clause-earlier : goal.returns-in_ok-pool-in-Some-clause-earlier
returns-in_ok-pool-in-Some-clause-earlier g c = λ trails so_far.
    let s = sought (g.S.Scheme.judge c.args.self.now.scheme.now) c.args.self.now in
    path_taken s trails c.args.trail.now c.args.first c.args.number c.end-end.result.now
    (record { pool = c.in_ok-pool-in-Some.pool; anchor = c.in-Some.anchor }) c.requires.number c.end-end.ensures c.in_ok-pool-in-Some.ensures
    (subst (λ (o : Option ℕ). IsFirstAnchor s c.args.number c.end-end.result.now o) c.in-Some.is c.in_ok-found.ensures.found)
    (c.is_before_path.ensures.0 c.if-not-is_before_path.false) so_far
