use Rattle.std.proofs.Common.{refl, rules, sym, subst, ◌+◌, ◌++◌, ◌∷◌, []}
use Rattle.std.proofs.lemmas.Option.{slice_get_read}
use Rattle.std.proofs.lemmas.Result.{MatchResult-weaker}
use Rattle.x509_core.specs.OwnedCertificate.{KeptCertificate}
use Rattle.demo_core.specs.Issuing.{AreStepCerts}
use Rattle.demo_core.proofs.StepHistories.{parent_at, with_step}
use Rattle.demo_core.proofs.certificates.next.Goals as goal

pub made-requires-clause-issuer : goal.made-requires-clause-issuer
made-requires-clause-issuer c = λ issuer by.
    let found = slice_get_read c.args.steps.now _ c.args.k c.in-Some.step.now refl (search rules) c.in-Some.ensures.lookup.1 in
    parent_at c.args.steps.now c.args.k c.args.before.now c.requires.before issuer c.requires.within
    ((c.requires.order c.args.k c.in-Some.step.now found).earlier issuer by)

pub returns : goal.returns
returns c =
    let found = slice_get_read c.args.steps.now _ c.args.k c.in-Some.step.now refl (search rules) c.in-Some.ensures.lookup.1 in
    let cert = c.in_ok-cert-in-Some.cert in
    let more =
    with_step c.args.steps.now c.args.k c.args.before.now c.in-Some.step.now cert (c.requires.order c.args.k c.in-Some.step.now found) found c.requires.before
    c.in_ok-cert-in-Some.ensures.answer c.in_ok-cert-in-Some.ensures.next in
    MatchResult-weaker c.read_again.result c.read_again.ensures
    (λ read same. subst (λ (x : KeptCertificate). AreStepCerts c.args.steps.now (c.args.k + 1) (c.args.before.now ++ x ∷ [])) (sym same) more)
    (λ e memory. memory)
