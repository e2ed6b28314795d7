use Rattle.std.proofs.Common.{◌≡◌, arith}
use Rattle.std.proofs.lemmas.Bool.Decides.{nat_tests}
use Rattle.std.proofs.lemmas.Grind.{common_steps}
use Rattle.asn1_types.specs.Time.{generalized_fields, utc_fields}
use Rattle.asn1_types.specs.Facts.Times.{same_generalized, same_utc}
use Rattle.asn1_types.proofs.time_laws.times_are_their_fields.Goals as goal

pub returns-clause-equal : goal.returns-clause-equal
returns-clause-equal c a b = (
  λ e. let fields : generalized_fields a ≡ generalized_fields b = grind (arith, nat_tests, common_steps) in same_generalized a b fields,
  λ e. grind (arith, nat_tests, common_steps),
)

pub returns-clause-utc_equal : goal.returns-clause-utc_equal
returns-clause-utc_equal c a b = (
  λ e. let fields : utc_fields a ≡ utc_fields b = grind (arith, nat_tests, common_steps) in same_utc a b fields,
  λ e. grind (arith, nat_tests, common_steps),
)
