use Rattle.std.proofs.Common.{sym, subst, arith}
use Rattle.demo_core.proofs.Ancestors.{IsWalked, issuer_earlier, issuer_has_cert, walked_more, walked_whole}
use Rattle.demo_core.proofs.acceptance.ancestors_of.Goals as goal

pub copy_at-requires : goal.copy_at-requires
copy_at-requires c = record {
  within = issuer_has_cert c.args.steps.now c.args.certificates.now c.requires.made c.loop-issuer.at c.in-Some.issuer c.loop-issuer.invariant.within
      c.in-Some.ensures;
}

pub loop-issuer-smaller : goal.loop-issuer-smaller
loop-issuer-smaller c =
    issuer_earlier c.args.steps.now c.args.certificates.now c.requires.made c.loop-issuer.at c.in-Some.issuer c.loop-issuer.invariant.within c.in-Some.ensures

pub loop-issuer-preserved : goal.loop-issuer-preserved
loop-issuer-preserved c =
    let steps = c.args.steps.now in
    let certificates = c.args.certificates.now in
    let at = c.loop-issuer.at in
    let issuer = c.in-Some.issuer in
    let earlier = issuer_earlier steps certificates c.requires.made at issuer c.loop-issuer.invariant.within c.in-Some.ensures in
    record {
      within = omega (arith, earlier, c.loop-issuer.invariant.within);
      walked = subst (IsWalked steps certificates c.args.index issuer) (sym c.in_ok-push.ensures.items)
          (walked_more steps certificates c.args.index at issuer c.loop-issuer.parents.items c.in_ok-copy_at.field-0 c.loop-issuer.invariant.walked
          c.loop-issuer.invariant.within c.in-Some.ensures c.in_ok-copy_at.ensures);
    }

pub returns : goal.returns
returns c = walked_whole c.args.steps.now c.args.certificates.now c.args.index c.loop-issuer.at c.loop-issuer.parents.items c.loop-issuer.invariant.walked
    c.loop-issuer.invariant.within c.in_default.ensures
