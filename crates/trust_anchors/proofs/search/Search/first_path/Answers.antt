use Rattle.std.proofs.Common.{◌≡◌, ◌+◌, ◌*◌, ◌≤◌, ℕ, List, Option, length, sym, ap, subst, ◌∙◌, arith, add-one}
use Rattle.std.proofs.lemmas.Result.{IfOk-weaker}
use Rattle.trust_anchors.specs.Inside.Trails.{HasNoneShorter, IsFirstWith, IsFound, IsLayer, most_verified, sought}
use Rattle.trust_anchors.specs.declared.path.AnchoredPath.{AnchoredPath}
use Rattle.trust_anchors.proofs.Bounds.{for_anchors, for_one_length, of_16, one_more_counted, part_of_16}
use Rattle.trust_anchors.proofs.Paths.{found_last, found_with, none_found, none_yet}
use Rattle.trust_anchors.proofs.Trails.{layer_none}
use Rattle.trust_anchors.proofs.search.Search.first_path.Goals as goal

pub loop-number-init : goal.loop-number-init
loop-number-init g c =
    let s = sought (g.S.Scheme.judge c.args.self.now.scheme.now) c.args.self.now in
    record {
      trails = subst (λ (trails : List (List ℕ)). IsLayer s 0 trails) (sym c.in_ok-layer.ensures) (layer_none s);
      none = none_yet s;
      counted = omega arith;
    }

pub returns-in-Some-clause-found : goal.returns-in-Some-clause-found
returns-in-Some-clause-found g c =
    let s = sought (g.S.Scheme.judge c.args.self.now.scheme.now) c.args.self.now in
    found_with s c.loop-number.number c.in-Some.path (omega arith) c.loop-number.invariant.none
    (subst (λ (o : Option AnchoredPath). IsFirstWith s c.loop-number.number o) c.in-Some.is c.in_ok-path.ensures.found)

pub loop-number-preserved : goal.loop-number-preserved
loop-number-preserved g c =
    let s = sought (g.S.Scheme.judge c.args.self.now.scheme.now) c.args.self.now in
    let n = length c.args.self.now.pool.now in
    let m = length c.args.self.now.anchors.now in
    let few : length c.deref.result.now ≤ n + 1 = omega (arith, c.loop-number.invariant.trails.few, ap length c.deref.ensures.value) in
    let counted : c.extended.new.steps ≤ c.args.steps.now + (c.loop-number.number + 1) * most_verified s =
    one_more_counted (length c.deref.result.now) (length c.deref-in-loop-number.result.now) n m (most_verified s)
    c.loop-number.number c.args.steps.now c.loop-number.steps c.anchored.new.steps c.extended.new.steps
    (for_one_length (length c.deref.result.now) n m few) (ap length (c.deref-in-loop-number.ensures.value ∙ sym c.deref.ensures.value))
    c.loop-number.invariant.counted c.anchored.ensures.counted c.extended.ensures.counted in
    record {
      trails = c.in_ok-layer-2.ensures.longer;
      none = none_found s c.loop-number.number (c.loop-number.number + 1) c.in_ok-path.field-0 (add-one c.loop-number.number)
          c.in_default.not-Some c.loop-number.invariant.none c.in_ok-path.ensures.found;
      counted = counted;
    }

pub anchored-requires-2 : goal.anchored-requires-2
anchored-requires-2 g c =
    let s = sought (g.S.Scheme.judge c.args.self.now.scheme.now) c.args.self.now in
    let last : c.loop-number.number ≡ 15 = omega arith in
    subst (λ (trails : List (List ℕ)). IsLayer s 15 trails) (sym c.deref-2.ensures.value)
    (subst (λ (number : ℕ). IsLayer s number c.loop-number.layer.items) last c.loop-number.invariant.trails)

pub returns-in_err-path-clause-counted : goal.returns-in_err-path-clause-counted
returns-in_err-path-clause-counted g c =
    let s = sought (g.S.Scheme.judge c.args.self.now.scheme.now) c.args.self.now in
    let n = length c.args.self.now.pool.now in
    let m = length c.args.self.now.anchors.now in
    let few : length c.deref.result.now ≤ n + 1 = omega (arith, c.loop-number.invariant.trails.few, ap length c.deref.ensures.value) in
    part_of_16 (length c.deref.result.now * m) c.loop-number.number (most_verified s) c.args.steps.now c.loop-number.steps c.anchored.new.steps (omega arith)
    (for_anchors (length c.deref.result.now) n m few) c.loop-number.invariant.counted c.anchored.ensures.counted

pub returns-in-Some-clause-counted : goal.returns-in-Some-clause-counted
returns-in-Some-clause-counted g c =
    let s = sought (g.S.Scheme.judge c.args.self.now.scheme.now) c.args.self.now in
    let n = length c.args.self.now.pool.now in
    let m = length c.args.self.now.anchors.now in
    let few : length c.deref.result.now ≤ n + 1 = omega (arith, c.loop-number.invariant.trails.few, ap length c.deref.ensures.value) in
    part_of_16 (length c.deref.result.now * m) c.loop-number.number (most_verified s) c.args.steps.now c.loop-number.steps c.anchored.new.steps (omega arith)
    (for_anchors (length c.deref.result.now) n m few) c.loop-number.invariant.counted c.anchored.ensures.counted

pub returns-in_err-layer-2-clause-counted : goal.returns-in_err-layer-2-clause-counted
returns-in_err-layer-2-clause-counted g c =
    let s = sought (g.S.Scheme.judge c.args.self.now.scheme.now) c.args.self.now in
    let n = length c.args.self.now.pool.now in
    let m = length c.args.self.now.anchors.now in
    let few : length c.deref.result.now ≤ n + 1 = omega (arith, c.loop-number.invariant.trails.few, ap length c.deref.ensures.value) in
    let counted : c.extended.new.steps ≤ c.args.steps.now + (c.loop-number.number + 1) * most_verified s =
    one_more_counted (length c.deref.result.now) (length c.deref-in-loop-number.result.now) n m (most_verified s)
    c.loop-number.number c.args.steps.now c.loop-number.steps c.anchored.new.steps c.extended.new.steps
    (for_one_length (length c.deref.result.now) n m few) (ap length (c.deref-in-loop-number.ensures.value ∙ sym c.deref.ensures.value))
    c.loop-number.invariant.counted c.anchored.ensures.counted c.extended.ensures.counted in
    of_16 c.loop-number.number (most_verified s) c.args.steps.now c.extended.new.steps (omega arith) counted

pub returns-clause-found : goal.returns-clause-found
returns-clause-found g c =
    let s = sought (g.S.Scheme.judge c.args.self.now.scheme.now) c.args.self.now in
    let last : c.loop-number.number ≡ 15 = omega arith in
    let none : HasNoneShorter s 15 = subst (λ (number : ℕ). HasNoneShorter s number) last c.loop-number.invariant.none in
    IfOk-weaker c.anchored-2.result (IsFirstWith s 15) (IsFound s) (λ found first. found_last s found none first) c.anchored-2.ensures.found

pub returns-clause-counted : goal.returns-clause-counted
returns-clause-counted g c =
    let s = sought (g.S.Scheme.judge c.args.self.now.scheme.now) c.args.self.now in
    let n = length c.args.self.now.pool.now in
    let m = length c.args.self.now.anchors.now in
    let few : length c.deref-2.result.now ≤ n + 1 = omega (arith, c.loop-number.invariant.trails.few, ap length c.deref-2.ensures.value) in
    part_of_16 (length c.deref-2.result.now * m) c.loop-number.number (most_verified s) c.args.steps.now c.loop-number.steps c.anchored-2.new.steps
    (omega arith)
    (for_anchors (length c.deref-2.result.now) n m few) c.loop-number.invariant.counted c.anchored-2.ensures.counted
