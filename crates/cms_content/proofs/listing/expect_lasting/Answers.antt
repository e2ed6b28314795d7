use Rattle.std.proofs.Common.{ℕ, ℤ, ◌≡◌, ◌<◌, ◌≤◌, ◌<ℤ◌, ◌≤ℤ◌, List, length, arith, of_z, subst, to_z, w64}
use Rattle.std.proofs.lemmas.Int.{ints}
use Rattle.cms_content.specs.FileTime.{seconds_of}
use Rattle.cms_content.proofs.ListingSteps.{end_missing, ended, lasts, lasts_without, revoked}
use Rattle.cms_content.proofs.listing.expect_lasting.Goals as goal

pub returns-in_default : goal.returns-in_default
returns-in_default c = lasts_without c.args.entry.now c.args.now c.in_default.ensures

pub returns-in_default-first : goal.returns-in_default-first
returns-in_default-first c =
    end_missing c.args.entry.now c.args.now c.in-Some.times.now c.in-Some.ensures c.in_default-first.ensures.value

pub returns-in_default-seconds_of : goal.returns-in_default-seconds_of
returns-in_default-seconds_of c =
    let short = subst (λ (v : List ℕ). length v < 8) c.as_slice.ensures c.in_default-seconds_of.ensures in
    revoked c.args.entry.now c.args.now c.in-Some.times.now c.in-Some-first.first.now c.in-Some.ensures c.in-Some-first.ensures.value short

pub returns-then-not_after-now : goal.returns-then-not_after-now
returns-then-not_after-now c =
    let time = subst (λ (v : List ℕ). (8 ≤ length v) × (c.in-Some-seconds_of.not_after ≡ seconds_of v)) c.as_slice.ensures c.in-Some-seconds_of.ensures in
    let less : c.in-Some-seconds_of.not_after <ℤ c.args.now = omega (arith, ints) in
    let end : to_z w64 (of_z w64 c.in-Some-seconds_of.not_after) ≡ c.in-Some-seconds_of.not_after = omega (arith, ints) in
    let now : to_z w64 (of_z w64 c.args.now) ≡ c.args.now = omega (arith, ints) in
    rw (end, now) (ended c.args.entry.now c.args.now c.in-Some.times.now c.in-Some-first.first.now c.in-Some.ensures c.in-Some-first.ensures.value
    c.in-Some-seconds_of.not_after time.0 time.1 less)

pub returns : goal.returns
returns c =
    let time = subst (λ (v : List ℕ). (8 ≤ length v) × (c.in-Some-seconds_of.not_after ≡ seconds_of v)) c.as_slice.ensures c.in-Some-seconds_of.ensures in
    let later : c.args.now ≤ℤ c.in-Some-seconds_of.not_after = omega (arith, ints) in
    lasts c.args.entry.now c.args.now c.in-Some.times.now c.in-Some-first.first.now c.in-Some.ensures c.in-Some-first.ensures.value
    c.in-Some-seconds_of.not_after time.0 time.1 later
