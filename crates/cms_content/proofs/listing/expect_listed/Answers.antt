use Rattle.std.proofs.Common.{◌≡◌, ℕ, ℤ, List, MatchResult, arith, of_z, subst, to_z, w64}
use Rattle.std.proofs.lemmas.Int.{ints}
use Rattle.std.proofs.lemmas.Result.{err_from_is_err_and}
use Rattle.der_core.specs.Rules.{IsFirstBroken}
use Rattle.cms_content.specs.Attributes.{HasDigest}
use Rattle.cms_content.specs.First.{HoldsOfNone, IsFirst}
use Rattle.cms_content.specs.Listing.{BeginsWell, EndsWell, beginning_rules, end_rules}
use Rattle.cms_content.proofs.ListingSteps.{begins_or_not, ends_badly, not_listed}
use Rattle.cms_content.proofs.listing.expect_listed.Goals as goal

pub returns-in_default : goal.returns-in_default
returns-in_default c =
    not_listed c.args.entries.now c.args.name.now c.args.now
    (subst (λ (digest : List ℕ). HoldsOfNone (HasDigest digest) c.args.entries.now) c.digest-digest.ensures c.in_default.ensures)

pub returns-in_err-expect_lasting : goal.returns-in_err-expect_lasting
returns-in_err-expect_lasting c =
    let now : to_z w64 (of_z w64 c.args.now) ≡ c.args.now = omega (arith, ints) in
    let first = subst (λ (digest : List ℕ). IsFirst (HasDigest digest) c.args.entries.now c.in-Some.entry.now) c.digest-digest.ensures c.in-Some.ensures in
    let broken = subst (λ (n : ℤ). IsFirstBroken (end_rules c.in-Some.entry.now n) c.in_err-expect_lasting.field-0.0) now c.in_err-expect_lasting.ensures in
    let p = err_from_is_err_and c.from_residual.result c.from_residual.ensures.1 in
    rw (p.1, p.2) (ends_badly c.args.entries.now c.args.name.now c.args.now c.in-Some.entry.now c.in_err-expect_lasting.field-0.0 first broken)

pub returns : goal.returns
returns c =
    let now : to_z w64 (of_z w64 c.args.now) ≡ c.args.now = omega (arith, ints) in
    let first = subst (λ (digest : List ℕ). IsFirst (HasDigest digest) c.args.entries.now c.in-Some.entry.now) c.digest-digest.ensures c.in-Some.ensures in
    let lasts = subst (λ (n : ℤ). EndsWell c.in-Some.entry.now n) now c.in_ok-expect_lasting.ensures in
    let begins = subst (λ (n : ℤ). MatchResult c.expect_begun.result (λ _. BeginsWell c.in-Some.entry.now n)
    (IsFirstBroken (beginning_rules c.in-Some.entry.now n))) now c.expect_begun.ensures in
    begins_or_not c.args.entries.now c.args.name.now c.args.now c.in-Some.entry.now c.expect_begun.result first lasts begins
