use Rattle.std.proofs.Common.{List, ℕ, Option, subst, sym, add-one}
use Rattle.std.proofs.lemmas.Result.{on_ok_weaker}
use Rattle.trust_anchors.specs.Inside.Trails.{Continues, IsFirstOf, IsLayerUpTo, sought}
use Rattle.trust_anchors.proofs.Trails.{layer_grown, layer_passed}
use Rattle.trust_anchors.proofs.search.Search.extend.Goals as goal

pub returns-in-None-clause-longer : goal.returns-in-None-clause-longer
returns-in-None-clause-longer g c =
    let s = sought (g.S.Scheme.judge c.args.self.now.scheme.now) c.args.self.now in
    layer_passed s c.args.number c.args.index _ c.args.layer.now c.args.longer.now.items c.args.parent.now (add-one c.args.index)
    c.requires.layer c.requires.parent
    (subst (λ (o : Option (List ℕ)). IsFirstOf (Continues s c.args.parent.now) c.args.layer.now o) c.in-None.is c.in_ok-found.ensures.found) c.requires.longer

pub returns-in-Some-clause-longer : goal.returns-in-Some-clause-longer
returns-in-Some-clause-longer g c =
    let s = sought (g.S.Scheme.judge c.args.self.now.scheme.now) c.args.self.now in
    on_ok_weaker _
    (λ are. subst (IsLayerUpTo s c.args.number _) (sym are)
    (layer_grown s c.args.number c.args.index _ c.args.layer.now c.args.longer.now.items c.args.parent.now c.in-Some.trail (add-one c.args.index)
    c.requires.layer c.requires.parent
    (subst (λ (o : Option (List ℕ)). IsFirstOf (Continues s c.args.parent.now) c.args.layer.now o) c.in-Some.is c.in_ok-found.ensures.found) c.requires.longer))
    c.append.ensures
