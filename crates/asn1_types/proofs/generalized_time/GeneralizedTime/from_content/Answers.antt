use Rattle.std.proofs.Common.{◌≡◌, ◌+◌, ◌*◌, length, slice_index, rules, arith}
use Rattle.asn1_types.specs.Time.{generalized_contents, generalized_fields}
use Rattle.asn1_types.proofs.Times.{generalized_made, generalized_spelled, generalized_read, read_or_not}
use Rattle.asn1_types.proofs.generalized_time.GeneralizedTime.from_content.Goals as goal

pub returns-clause-only : goal.returns-clause-only
returns-clause-only c t e =
    let year = 100 * c.from-century.result + c.from-of_century.result in
    let whole : year ≡ 100 * c.in_ok-number_at.field-0 + c.in_ok-number_at-2.field-0 = cc in
    generalized_made _ t _ c.new.ensures.exists c.new.ensures.given
    (generalized_read _ t year _ _ _ _ _ _ _ whole c.in_ok-number_at.ensures c.in_ok-number_at-2.ensures c.in_ok-number_at-3.ensures c.in_ok-number_at-4.ensures
    c.in_ok-number_at-5.ensures c.in_ok-number_at-6.ensures c.in_ok-number_at-7.ensures e)

pub returns-clause-read : goal.returns-clause-read
returns-clause-read c =
    let bs = c.args.bytes.now in
    let year = 100 * c.from-century.result + c.from-of_century.result in
    let whole : year ≡ 100 * c.in_ok-number_at.field-0 + c.in_ok-number_at-2.field-0 = cc in
    let len : length bs ≡ 15 = omega arith in
    let last : slice_index bs 14 ≡ 90 = search (rules, arith) in
    read_or_not generalized_contents generalized_fields bs _ c.new.result (returns-clause-only c)
    (λ t e. generalized_spelled bs t year _ _ _ _ _ _ _ whole len last c.in_ok-number_at.ensures c.in_ok-number_at-2.ensures c.in_ok-number_at-3.ensures
    c.in_ok-number_at-4.ensures c.in_ok-number_at-5.ensures c.in_ok-number_at-6.ensures c.in_ok-number_at-7.ensures e) c.new.ensures.given
