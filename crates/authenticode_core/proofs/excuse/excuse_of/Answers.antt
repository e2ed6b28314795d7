use Rattle.std.proofs.Common.{inl, inr, subst}
use Rattle.std.proofs.lemmas.Bool.{iff_false}
use Rattle.std.proofs.lemmas.Result.{err_from_is_err_and}
use Rattle.cms_types.specs.SignedDataElements.{SignedDataElements}
use Rattle.cms_types.specs.SignedView.{data_elements}
use Rattle.x509_types.specs.CertificateView.{view_elements}
use Rattle.authenticode_core.specs.Excuses.{IsForStamping}
use Rattle.authenticode_core.proofs.StampSteps.{returned_or_memory, unlisted_returned}
use Rattle.authenticode_core.proofs.Tokens.{token_once}
use Rattle.authenticode_core.proofs.excuse.excuse_of.Goals as goal

pub returns-then-names : goal.returns-then-names
returns-then-names g c = λ bag is. inl (c.names.ensures.0 c.if-names.true)

pub returns-then-names_time_stamping : goal.returns-then-names_time_stamping
returns-then-names_time_stamping g c =
    λ bag is. (iff_false c.names.ensures c.if-names.false, (c.names_time_stamping.ensures bag is).0 c.if-names_time_stamping.true)

pub returns-in_default : goal.returns-in_default
returns-in_default g c =
    λ bag is. inr (iff_false (c.names_time_stamping.ensures bag is) c.if-names_time_stamping.false, λ t other has stamping. c.in_default.ensures t has)

pub returns-in_default-first_of_stamping : goal.returns-in_default-first_of_stamping
returns-in_default-first_of_stamping g c = λ bag is.
    inr (
      iff_false (c.names_time_stamping.ensures bag is) c.if-names_time_stamping.false,
      λ t other has stamping. c.in_default-first_of_stamping.ensures other (subst (λ (x : SignedDataElements). IsForStamping x other)
          (token_once (data_elements c.args.signed_data.now) t (data_elements c.in-Some.token) has c.in-Some.ensures) stamping),
    )

pub returns-in_err-expect_linked : goal.returns-in_err-expect_linked
returns-in_err-expect_linked g c = λ bag is.
    let p = err_from_is_err_and c.from_residual.result c.from_residual.ensures.1 in
    let leads = c.in-Some-first_of_stamping.ensures in
    rw (p.1, p.2) (returned_or_memory (g.S.Scheme.judge c.args.scheme.now) c.args.policy.now (data_elements c.args.signed_data.now)
    (data_elements c.in-Some.token) bag (view_elements c.args.signer.now) _
    (iff_false c.names.ensures c.if-names.false) (iff_false (c.names_time_stamping.ensures bag is) c.if-names_time_stamping.false)
    c.in-Some.ensures leads c.in_err-expect_linked.field-0.0 (c.in_err-expect_linked.ensures leads.bag leads.stamping.is_bag leads.stands))

pub expect_listed_token-requires : goal.expect_listed_token-requires
expect_listed_token-requires g c =
    let leads = c.in-Some-first_of_stamping.ensures in
    (leads.bag, leads.stamping)

pub returns-in_err-expect_listed_token : goal.returns-in_err-expect_listed_token
returns-in_err-expect_listed_token g c = λ bag is.
    let p = err_from_is_err_and c.from_residual-in_err-expect_listed_token.result c.from_residual-in_err-expect_listed_token.ensures.1 in
    let leads = c.in-Some-first_of_stamping.ensures in
    rw (p.1, p.2) (unlisted_returned (g.S.Scheme.judge c.args.scheme.now) c.args.policy.now (data_elements c.args.signed_data.now)
    (data_elements c.in-Some.token) bag (view_elements c.args.signer.now) _
    (iff_false c.names.ensures c.if-names.false) (iff_false (c.names_time_stamping.ensures bag is) c.if-names_time_stamping.false)
    c.in-Some.ensures leads c.in_err-expect_listed_token.field-0.0 (c.in_ok-expect_linked.ensures leads.bag leads.stamping.is_bag leads.stands)
    (c.in_err-expect_listed_token.ensures leads.bag leads.stamping.is_bag))

pub returns : goal.returns
returns g c = λ bag is.
    let leads = c.in-Some-first_of_stamping.ensures in (
      iff_false c.names.ensures c.if-names.false,
      iff_false (c.names_time_stamping.ensures bag is) c.if-names_time_stamping.false,
      record {
        t = data_elements c.in-Some.token;
        has = c.in-Some.ensures;
        bag = leads.bag;
        stamping = leads.stamping;
        linked = c.in_ok-expect_linked.ensures leads.bag leads.stamping.is_bag leads.stands;
        listed = c.in_ok-expect_listed_token.ensures leads.bag leads.stamping.is_bag;
      },
    )
