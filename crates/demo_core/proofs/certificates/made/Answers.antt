use Rattle.std.proofs.Common.{refl, rules, sym, ◌∙◌, subst}
use Rattle.std.proofs.lemmas.Option.{slice_get_read}
use Rattle.std.proofs.lemmas.Result.{IfOk-weaker}
use Rattle.x509_core.proofs.Validity.{same_some}
use Rattle.demo_core.specs.Issuing.{IsOfSubject}
use Rattle.demo_core.proofs.StepHistories.{none_past}
use Rattle.demo_core.proofs.certificates.made.Goals as goal

pub issued-requires-clause-parent : goal.issued-requires-clause-parent
issued-requires-clause-parent c =
    let found = slice_get_read c.args.before.now _ c.in-Some.issuer c.in-Some-get.parent.now refl (search rules) c.in-Some-get.ensures.lookup.1 in
    let parent = c.requires.issuer c.in-Some.issuer c.in-Some.is in
    subst (IsOfSubject c.in-Some.issuer) (same_some parent.0 c.in-Some-get.parent.now (sym parent.1 ∙ found)) parent.2

pub unreachable-requires : goal.unreachable-requires
unreachable-requires c =
    let parent = c.requires.issuer c.in-Some.issuer c.in-Some.is in
    none_past c.args.before.now c.in-Some.issuer parent.0 parent.1 c.in-None-get.ensures.lookup.0

pub returns-in-None-clause-next : goal.returns-in-None-clause-next
returns-in-None-clause-next c =
    IfOk-weaker c.root.result _ _ (λ cert next recorded of. next c.args.before.now recorded of) c.root.ensures.next

pub returns-in-Some-get-clause-next : goal.returns-in-Some-get-clause-next
returns-in-Some-get-clause-next c =
    let found = slice_get_read c.args.before.now _ c.in-Some.issuer c.in-Some-get.parent.now refl (search rules) c.in-Some-get.ensures.lookup.1 in
    IfOk-weaker c.issued.result _ _ (λ cert next recorded of. next c.args.before.now recorded found of) c.issued.ensures.next
