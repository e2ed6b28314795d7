use Rattle.std.proofs.Common.{ℕ, ℤ, ◌≡◌, ◌⊎◌, inl, inr, ◌<◌, ◌≤◌, ◌<ℤ◌, ◌≤ℤ◌, List, length, arith, of_z, subst, to_z, w64}
use Rattle.std.proofs.lemmas.Bool.{iff_false}
use Rattle.std.proofs.lemmas.Int.{ints}
use Rattle.cms_content.specs.FileTime.{seconds_of}
use Rattle.cms_content.specs.Listing.{IsForOthers}
use Rattle.cms_content.proofs.ListingSteps.{beginning_missing, begins_without, begun, short_beginning, too_early}
use Rattle.cms_content.proofs.listing.expect_begun.Goals.{else-not_before-now-via-then-not_before-now+else-not-is_for_others}
use Rattle.cms_content.proofs.listing.expect_begun.Goals.{else-not_before-now-via-else-not_before-now}
use Rattle.cms_content.proofs.listing.expect_begun.Goals as goal

pub returns-in_default : goal.returns-in_default
returns-in_default c = begins_without c.args.entry.now c.args.now c.in_default.ensures

pub returns-in_default-first : goal.returns-in_default-first
returns-in_default-first c = beginning_missing c.args.entry.now c.args.now c.in-Some.times.now c.in-Some.ensures c.in_default-first.ensures.value

pub returns-in_default-seconds_of : goal.returns-in_default-seconds_of
returns-in_default-seconds_of c =
    let short = subst (λ (v : List ℕ). length v < 8) c.as_slice.ensures c.in_default-seconds_of.ensures in
    short_beginning c.args.entry.now c.args.now c.in-Some.times.now c.in-Some-first.first.now c.in-Some.ensures c.in-Some-first.ensures.value short

pub returns-then-not-is_for_others : goal.returns-then-not-is_for_others
returns-then-not-is_for_others c =
    let time = subst (λ (v : List ℕ). (8 ≤ length v) × (c.in-Some-seconds_of.not_before ≡ seconds_of v)) c.as_slice.ensures c.in-Some-seconds_of.ensures in
    let early : c.args.now <ℤ c.in-Some-seconds_of.not_before = omega (arith, ints) in
    let start : to_z w64 (of_z w64 c.in-Some-seconds_of.not_before) ≡ c.in-Some-seconds_of.not_before = omega (arith, ints) in
    let now : to_z w64 (of_z w64 c.args.now) ≡ c.args.now = omega (arith, ints) in
    rw (start, now) (too_early c.args.entry.now c.args.now c.in-Some.times.now c.in-Some-first.first.now c.in-Some.ensures c.in-Some-first.ensures.value
    c.in-Some-seconds_of.not_before time.0 time.1 early (iff_false c.is_for_others.ensures c.if-not-is_for_others.true))

pub returns : goal.returns
returns c =
    let time = subst (λ (v : List ℕ). (8 ≤ length v) × (c.in-Some-seconds_of.not_before ≡ seconds_of v)) c.as_slice.ensures c.in-Some-seconds_of.ensures in
    let begun_or_said : (c.in-Some-seconds_of.not_before ≤ℤ c.args.now) ⊎ IsForOthers c.args.entry.now = elim c.else-not_before-now.branch [
      | else-not_before-now-via-then-not_before-now+else-not-is_for_others w ↦ inr (w.is_for_others.ensures.0 w.if-not-is_for_others.false)
      | else-not_before-now-via-else-not_before-now w ↦ inl (omega (arith, ints))
    ] in
    begun c.args.entry.now c.args.now c.in-Some.times.now c.in-Some-first.first.now c.in-Some.ensures c.in-Some-first.ensures.value
    c.in-Some-seconds_of.not_before time.0 time.1 begun_or_said
