use Rattle.std.proofs.Common.{◌≡◌, length, slice_index, rules, arith}
use Rattle.asn1_types.specs.Time.{utc_contents, utc_fields}
use Rattle.asn1_types.proofs.Times.{utc_made, utc_spelled, utc_read, read_or_not}
use Rattle.asn1_types.proofs.utc_time.UTCTime.from_content.Goals as goal

pub returns-clause-only : goal.returns-clause-only
returns-clause-only c t e =
    utc_made _ t _ c.new.ensures.exists c.new.ensures.given
    (utc_read _ t _ _ _ _ _ _ _ c.full_year.ensures.of_years c.full_year.ensures.digits c.in_ok-last_digits.ensures c.in_ok-number_at.ensures
    c.in_ok-number_at-2.ensures c.in_ok-number_at-3.ensures c.in_ok-number_at-4.ensures c.in_ok-number_at-5.ensures e)

pub returns-clause-read : goal.returns-clause-read
returns-clause-read c =
    let bs = c.args.bytes.now in
    let len : length bs ≡ 13 = omega arith in
    let last : slice_index bs 12 ≡ 90 = search (rules, arith) in
    read_or_not utc_contents utc_fields bs _ c.new.result (returns-clause-only c)
    (λ t e. utc_spelled bs t _ _ _ _ _ _ _ c.full_year.ensures.digits len last c.in_ok-last_digits.ensures c.in_ok-number_at.ensures c.in_ok-number_at-2.ensures
    c.in_ok-number_at-3.ensures c.in_ok-number_at-4.ensures c.in_ok-number_at-5.ensures e) c.new.ensures.given
