use Rattle.std.proofs.Common.{◌≡◌, rules, arith, ap, ◌∙◌, take, drop, ◌-◌}
use Rattle.der_core.specs.Head.{number_from}
use Rattle.der_core.proofs.Lengths.{long_known, long_read}
use Rattle.der_core.proofs.header.known_length.Goals as goal

pub split_at-requires : goal.split_at-requires
split_at-requires c =
    let form = long_known c.args.octets.now c.in-Some.first.now c.in-Some.rest.now (search rules) (omega (arith, c.if-first-lt128.false)) c.requires in
    omega (arith, form.there, c.from-2.ensures)

pub returns : goal.returns
returns c =
    let first = c.in-Some.first.now in
    let rest = c.in-Some.rest.now in
    let many : c.from-2.result - 128 ≡ first - 128 = omega (arith, c.from-2.ensures) in
    let digits : c.split_at.result.0.now ≡ take (first - 128) rest = c.split_at.ensures.front ∙ ap (λ n. take n rest) many in
    let after : c.split_at.result.1.now ≡ drop (first - 128) rest = c.split_at.ensures.back ∙ ap (λ n. drop n rest) many in
    let length_is : c.long_length.result ≡ number_from 0 (take (first - 128) rest) = c.long_length.ensures ∙ ap (number_from 0) digits in
    rw (length_is, after) (long_read c.args.octets.now first rest (search rules) (omega (arith, c.if-first-lt128.false)) c.requires)
