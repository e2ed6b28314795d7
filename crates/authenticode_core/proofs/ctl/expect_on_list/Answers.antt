use Rattle.std.proofs.Common.{◌≡◌, ℕ, ℤ, List, arith, of_z, subst, to_z, w64}
use Rattle.std.proofs.lemmas.Int.{ints}
use Rattle.std.proofs.lemmas.Result.{err_from_is_err_and}
use Rattle.der_core.specs.Rules.{IsFirstBroken}
use Rattle.cms_content.specs.Listing.{IsListed, listing_rules}
use Rattle.authenticode_core.proofs.OnList.{no_list, not_listed}
use Rattle.authenticode_core.proofs.ctl.expect_on_list.Goals as goal

pub returns-in_err-entries : goal.returns-in_err-entries
returns-in_err-entries c = λ ca is.
    let p = err_from_is_err_and c.from_residual.result c.from_residual.ensures.1 in
    rw (p.1, p.2) (no_list c.args.list.now c.args.now ca c.in_err-entries.field-0.0 c.in_err-entries.ensures)

pub returns-in_err-expect_listed : goal.returns-in_err-expect_listed
returns-in_err-expect_listed c = λ ca is.
    let now : to_z w64 (of_z w64 c.args.now) ≡ c.args.now = omega (arith, ints) in
    let p = err_from_is_err_and c.from_residual-in_err-expect_listed.result c.from_residual-in_err-expect_listed.ensures.1 in
    let e = c.in_err-expect_listed.field-0.0 in
    let entries = c.in_ok-entries.entries.now in
    let then = subst (λ (n : ℤ). IsFirstBroken (listing_rules entries c.args.name.now n) e) now c.in_err-expect_listed.ensures in
    rw (p.1, p.2) (not_listed c.args.list.now c.args.now ca entries e c.in_ok-entries.ensures
    (subst (λ (octets : List ℕ). IsFirstBroken (listing_rules entries octets c.args.now) e) is then))

pub returns : goal.returns
returns c = λ ca is.
    let now : to_z w64 (of_z w64 c.args.now) ≡ c.args.now = omega (arith, ints) in
    let entries = c.in_ok-entries.entries.now in
    let then = subst (λ (n : ℤ). IsListed entries c.args.name.now n) now c.in_ok-expect_listed.ensures in
    (entries, c.in_ok-entries.ensures, subst (λ (octets : List ℕ). IsListed entries octets c.args.now) is then)
