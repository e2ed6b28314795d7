use Rattle.std.proofs.Common.{◌⊎◌, Option, List, [], ◌∷◌, ◌++◌, map, length, inl, inr, refl, subst, ◌∙◌}
use Rattle.std.proofs.lemmas.Result.{err_from_is_err_and}
use Rattle.std.proofs.iter.Next.{Yields-more}
use Rattle.std.specs.Borrow.{Bor}
use Rattle.std.specs.Iterator.{Yields}
use Rattle.x509_core.specs.Chain.{GivesParent, lent, nearest}
use Rattle.x509_core.specs.CertType.{IsOfType}
use Rattle.x509_core.specs.OwnedCertificate.{KeptCertificate}
use Rattle.x509_core.specs.Link.{IsLink, link_rules}
use Rattle.x509_core.specs.Rules.{RefusesCertBy}
use Rattle.x509_core.proofs.ChainSteps.{linked_none_of, grown_chain, grown_place, grown_count, unlinked}
use Rattle.x509_core.proofs.validator.last_type.Goals as goal

with_run : {A B C : Type 0} {P : B → C → Type 0} {Q : B → Type 0} (xs : B) (rest : C) → P xs rest → Q xs ⊎ A → ((xs : B) × (rest : C) × P xs rest × Q xs) ⊎ A
with_run xs rest run (inl first) = inl (xs, rest, run, first)
with_run xs rest run (inr memory) = inr memory

-- the first of those that were yielded
one_given : {S : Type 0} (steps : S → Option (Bor KeptCertificate) → S → Type 0) (s : S) (xs : List (Bor KeptCertificate)) (x : Bor KeptCertificate) (t : S)
    → Yields steps s (xs ++ x ∷ []) t → GivesParent steps s
one_given steps s [] x t came = record { parent = x; rest = came.0; given = came.1 }
one_given steps s (y ∷ ys) x t came = record { parent = y; rest = came.0; given = came.1 }

pub loop-parent-init : goal.loop-parent-init
loop-parent-init g c = record {
  linked = linked_none_of (g.S.Scheme.judge c.args.scheme.now) c.args.window.now c.args.checked.cert.now;
  at = refl;
  counted = refl;
}

pub returns-in_err-expect_next : goal.returns-in_err-expect_next
returns-in_err-expect_next g c =
    let p = err_from_is_err_and c.from_residual.result c.from_residual.ensures.1 in
    let judge = g.S.Scheme.judge c.args.scheme.now in
    let w = c.args.window.now in
    let checked = c.args.checked.cert.now in
    let xs = c.loop-parent.yielded in
    let more = Yields-more g.Chain.Iterator.next_gives _ xs c.loop-parent.parent-iterator c.in-Some.parent c.next.new.self c.loop-parent.yielded_by
    c.in-Some.ensures.steps in
    let so_far = c.loop-parent.invariant in
    let e = c.in_err-expect_next.field-0.0 in
    let broken = subst (λ (parent : KeptCertificate). RefusesCertBy (link_rules judge w (length (map lent xs)) parent (nearest checked c.loop-parent.last)) e)
    c.viewed-above.ensures (c.in_err-expect_next.ensures (length (map lent xs)) so_far.counted) in
    let ran = subst (λ (s : _). Yields g.Chain.Iterator.next_gives s (xs ++ c.in-Some.parent ∷ []) c.next.new.self)
    c.into_iter-parent-iterator.ensures.into_iter_gives more in
    record {
      answer = rw (p.1, p.2) (with_run _ _ ran (unlinked judge w checked xs c.in-Some.parent _ e so_far.linked so_far.at broken));
      memory = rw (p.1, p.2) (λ none. one_given g.Chain.Iterator.next_gives _ xs c.in-Some.parent c.next.new.self ran);
    }

pub loop-parent-preserved : goal.loop-parent-preserved
loop-parent-preserved g c =
    let judge = g.S.Scheme.judge c.args.scheme.now in
    let w = c.args.window.now in
    let checked = c.args.checked.cert.now in
    let xs = c.loop-parent.yielded in
    let x = c.in-Some.parent in
    let so_far = c.loop-parent.invariant in
    let link = subst (λ (parent : KeptCertificate). IsLink judge w (length (map lent xs)) parent.elements (nearest checked c.loop-parent.last).elements)
    c.viewed-above.ensures (c.in_ok-expect_next.ensures (length (map lent xs)) so_far.counted) in
    record {
      linked = grown_chain judge w checked xs x _ so_far.linked so_far.at link;
      at = c.viewed-above.ensures ∙ grown_place checked xs x;
      counted = grown_count xs x _ _ so_far.counted c.saturating_add-number.ensures;
    }

pub returns : goal.returns
returns g c =
    let xs = c.loop-parent.yielded in
    let so_far = c.loop-parent.invariant in
    let ran = subst (λ (s : _). Yields g.Chain.Iterator.next_gives s xs c.loop-parent.parent-iterator)
    c.into_iter-parent-iterator.ensures.into_iter_gives c.loop-parent.yielded_by in
    let last = subst (λ (kept : KeptCertificate). IsOfType kept.elements c.type_so_far.result) so_far.at c.type_so_far.ensures in
    record { answer = (xs, (c.next.new.self, (c.loop-parent.parent-iterator, ran, c.in-None.ensures.steps)), so_far.linked, last); memory = tt }
