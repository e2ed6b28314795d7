use Rattle.std.proofs.Common.{◌↔◌, ◌≡◌, IsTrue, Bool, arith}
use Rattle.std.specs.Prelude.{bytes_eq}
use Rattle.std.proofs.lemmas.Bool.Decides.{nat_tests}
use Rattle.std.proofs.lemmas.Grind.{common_steps}
use Rattle.der_core.specs.Encoding.{encoding}
use Rattle.der_core.specs.Facts.Equality.{octets_decide, same_whole}
use Rattle.asn1_types.specs.Time.{generalized_fields, utc_fields}
use Rattle.asn1_types.specs.Facts.Times.{same_generalized, same_utc}
use Rattle.asn1_types.specs.Elements.{time}
use Rattle.asn1_types.specs.Facts.Elements.{times, times_once}
use Rattle.asn1_types.specs.declared.time.Time.{Time}
use Rattle.asn1_types.specs.declared.time.Time.TheVariants as forms
use Rattle.asn1_types.proofs.time.TimePartialEq.eq.Goals as goal

by_octets : (a b : Time) (t : Bool) → (IsTrue t ↔ (a ≡ b)) → t ≡ bytes_eq (encoding (time a)) (encoding (time b))
by_octets = octets_decide time times_once times.formed

pub returns-in-Utc-Utc-clause-same : goal.returns-in-Utc-Utc-clause-same
returns-in-Utc-Utc-clause-same c =
    let a = c.in-Utc-Utc.a in
    let b = c.in-Utc-Utc.b in
    same_whole forms.Utc (λ a b e. cc) _ _ a b _ c.in-Utc-Utc.is-0 c.in-Utc-Utc.is-1 (
      λ w. let fields : utc_fields a ≡ utc_fields b = grind (arith, nat_tests, common_steps) in same_utc a b fields,
      λ e. grind (arith, nat_tests, common_steps),
    )

pub returns-in-Utc-Utc-clause-octets : goal.returns-in-Utc-Utc-clause-octets
returns-in-Utc-Utc-clause-octets c = by_octets _ _ _ (returns-in-Utc-Utc-clause-same c)

pub returns-in-Generalized-Generalized-clause-same : goal.returns-in-Generalized-Generalized-clause-same
returns-in-Generalized-Generalized-clause-same c =
    let a = c.in-Generalized-Generalized.a in
    let b = c.in-Generalized-Generalized.b in
    same_whole forms.Generalized (λ a b e. cc) _ _ a b _ c.in-Generalized-Generalized.is-0 c.in-Generalized-Generalized.is-1 (
      λ w. let fields : generalized_fields a ≡ generalized_fields b = grind (arith, nat_tests, common_steps) in same_generalized a b fields,
      λ e. grind (arith, nat_tests, common_steps),
    )

pub returns-in-Generalized-Generalized-clause-octets : goal.returns-in-Generalized-Generalized-clause-octets
returns-in-Generalized-Generalized-clause-octets c = by_octets _ _ _ (returns-in-Generalized-Generalized-clause-same c)
