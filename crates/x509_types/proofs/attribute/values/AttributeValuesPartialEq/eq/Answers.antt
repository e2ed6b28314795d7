use Rattle.std.proofs.Common.{◌≡◌, ◌↔◌, IsTrue, Bool, sym, ◌∙◌}
use Rattle.std.specs.Prelude.{bytes_eq}
use Rattle.der_core.specs.Facts.Equality.{same_whole, unlike}
use Rattle.x509_types.specs.AttributeValues.{values_octets}
use Rattle.x509_types.specs.Facts.AttributeLists.{values_by_octets}
use Rattle.x509_types.specs.Facts.DeterminedExtensions.{decided_by_octets}
use Rattle.x509_types.specs.declared.attribute.values.AttributeValues.{AttributeValues}
use Rattle.x509_types.specs.declared.attribute.values.AttributeValues.TheVariants as values
use Rattle.x509_types.proofs.Valued.{same_types, same_digests, same_requests, same_kept_values}
use Rattle.x509_types.proofs.attribute.values.AttributeValuesPartialEq.eq.Goals as goal

by_octets : (a b : AttributeValues) (t : Bool) → (IsTrue t ↔ (a ≡ b)) → t ≡ bytes_eq (values_octets a) (values_octets b)
by_octets a b t same = decided_by_octets values_octets values_by_octets a b t same

pub returns-in-ContentType-ContentType-clause-same : goal.returns-in-ContentType-ContentType-clause-same
returns-in-ContentType-ContentType-clause-same c =
    same_whole values.ContentType (λ a b e. cc) _ _ _ _ _ c.in-ContentType-ContentType.is-0 c.in-ContentType-ContentType.is-1 (same_types _ _ _ c.eq.ensures)

pub returns-in-ContentType-ContentType-clause-compared : goal.returns-in-ContentType-ContentType-clause-compared
returns-in-ContentType-ContentType-clause-compared c = by_octets _ _ _
    (same_whole values.ContentType (λ a b e. cc) _ _ _ _ _ c.in-ContentType-ContentType.is-0 c.in-ContentType-ContentType.is-1 (same_types _ _ _ c.eq.ensures))

pub returns-in-MessageDigest-MessageDigest-clause-same : goal.returns-in-MessageDigest-MessageDigest-clause-same
returns-in-MessageDigest-MessageDigest-clause-same c = same_whole values.MessageDigest (λ a b e. cc) _ _ _ _ _ c.in-MessageDigest-MessageDigest.is-0
    c.in-MessageDigest-MessageDigest.is-1 (same_digests _ _ _ c.eq-in-MessageDigest-MessageDigest.ensures)

pub returns-in-MessageDigest-MessageDigest-clause-compared : goal.returns-in-MessageDigest-MessageDigest-clause-compared
returns-in-MessageDigest-MessageDigest-clause-compared c = by_octets _ _ _ (same_whole values.MessageDigest (λ a b e. cc) _ _ _ _ _
    c.in-MessageDigest-MessageDigest.is-0 c.in-MessageDigest-MessageDigest.is-1 (same_digests _ _ _ c.eq-in-MessageDigest-MessageDigest.ensures))

pub returns-in-Extensions-Extensions-clause-same : goal.returns-in-Extensions-Extensions-clause-same
returns-in-Extensions-Extensions-clause-same c = same_whole values.Extensions
    (λ a b e. cc) _ _ _ _ _ c.in-Extensions-Extensions.is-0 c.in-Extensions-Extensions.is-1 (same_requests _ _ _ c.eq-in-Extensions-Extensions.ensures)

pub returns-in-Extensions-Extensions-clause-compared : goal.returns-in-Extensions-Extensions-clause-compared
returns-in-Extensions-Extensions-clause-compared c = by_octets _ _ _ (same_whole values.Extensions
    (λ a b e. cc) _ _ _ _ _ c.in-Extensions-Extensions.is-0 c.in-Extensions-Extensions.is-1 (same_requests _ _ _ c.eq-in-Extensions-Extensions.ensures))

pub returns-in-Raw-Raw-clause-same : goal.returns-in-Raw-Raw-clause-same
returns-in-Raw-Raw-clause-same c =
    same_whole values.Raw (λ a b e. cc) _ _ _ _ _ c.in-Raw-Raw.is-0 c.in-Raw-Raw.is-1 (same_kept_values _ _ _ c.eq-in-Raw-Raw.ensures)

pub returns-in-Raw-Raw-clause-compared : goal.returns-in-Raw-Raw-clause-compared
returns-in-Raw-Raw-clause-compared c =
    by_octets _ _ _ (same_whole values.Raw (λ a b e. cc) _ _ _ _ _ c.in-Raw-Raw.is-0 c.in-Raw-Raw.is-1 (same_kept_values _ _ _ c.eq-in-Raw-Raw.ensures))

pub returns-in_default : goal.returns-in_default
returns-in_default c =
    let apart = unlike (λ e. c.in_default.not-ContentType-1 _ (sym e ∙ c.in_default.is-0)) in
    record { compared = by_octets _ _ _ apart; same = apart }

pub returns-in_default-2 : goal.returns-in_default-2
returns-in_default-2 c =
    let apart = unlike (λ e. c.in_default.not-MessageDigest-1 _ (sym e ∙ c.in_default.is-0)) in
    record { compared = by_octets _ _ _ apart; same = apart }

pub returns-in_default-3 : goal.returns-in_default-3
returns-in_default-3 c =
    let apart = unlike (λ e. c.in_default.not-Extensions-1 _ (sym e ∙ c.in_default.is-0)) in
    record { compared = by_octets _ _ _ apart; same = apart }

pub returns-in_default-4 : goal.returns-in_default-4
returns-in_default-4 c =
    let apart = unlike (λ e. c.in_default.not-Raw-1 _ (sym e ∙ c.in_default.is-0)) in
    record { compared = by_octets _ _ _ apart; same = apart }
