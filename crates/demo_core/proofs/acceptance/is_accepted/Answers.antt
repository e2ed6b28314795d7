use Rattle.std.proofs.Common.{refl, rules, subst, sym}
use Rattle.std.proofs.lemmas.Option.{slice_get_read}
use Rattle.std.proofs.lemmas.Result.{MatchResult-weaker}
use Rattle.demo_core.specs.Acceptance.{AreParents}
use Rattle.demo_core.proofs.Ancestors.{validity_is}
use Rattle.demo_core.proofs.acceptance.is_accepted.Goals as goal

pub returns : goal.returns
returns c =
    let found = slice_get_read c.args.certificates.now _ c.args.index c.in-Some.cert.now refl (search rules) c.in-Some.ensures.lookup.1 in
    let are = subst (AreParents c.args.steps.now c.args.certificates.now c.args.index) (sym c.deref.ensures.value) c.in_ok-parents.ensures in
    MatchResult-weaker c.is_accepted_over.result c.is_accepted_over.ensures
    (λ accepts decides.
    validity_is c.args.steps.now c.args.certificates.now c.args.index c.args.date.now c.in-Some.cert.now c.deref.result.now accepts found are decides)
    (λ e memory. memory)
