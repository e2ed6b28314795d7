use Rattle.std.proofs.Common.{ap, sym, subst, ◌∙◌}
use Rattle.std.proofs.lemmas.Bool.{iff_false}
use Rattle.der_core.specs.Optional.{members_of}
use Rattle.x509_types.specs.CertificateView.{view_elements}
use Rattle.x509_types.specs.Purposes.{HasSome, IsUsageFor}
use Rattle.x509_types.proofs.FoundSoFar.{some_purposes}
use Rattle.x509_types.proofs.Somewhere.{none_there}
use Rattle.x509_types.proofs.certificate.view.CertView.names.Goals as goal

pub returns-then-not-has_purposes : goal.returns-then-not-has_purposes
returns-then-not-has_purposes c =
    (λ w. absurd cc, λ names. absurd (iff_false c.has_purposes.ensures c.if-not-has_purposes.true (some_purposes (view_elements c.args.self.now) _ names)))

pub returns-in-Some : goal.returns-in-Some
returns-in-Some c =
    let are = sym (ap members_of c.extensions.ensures) ∙ c.in-Some.ensures in
    let test = c.has_usage_for.ensures in (
      λ w. subst (HasSome (IsUsageFor c.args.oid.now)) (sym are) (test.0 w),
      λ names. test.1 (subst (HasSome (IsUsageFor c.args.oid.now)) are names),
    )

pub returns-in-None : goal.returns-in-None
returns-in-None c = (λ w. absurd cc, λ names. absurd (none_there _ _ (sym (ap members_of c.extensions.ensures) ∙ c.in-None.ensures) names))
