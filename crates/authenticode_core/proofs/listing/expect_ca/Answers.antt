use Rattle.std.proofs.Common.{◌≡◌, ℤ, arith, inl, of_z, subst, to_z, w64}
use Rattle.std.proofs.lemmas.Int.{ints}
use Rattle.cms_types.specs.SignedView.{data_elements}
use Rattle.der_core.specs.Rules.{IsFirstBroken}
use Rattle.authenticode_core.specs.TrustList.{IsOnList, name_rules}
use Rattle.authenticode_core.proofs.CaOrder.{excluded_or_not, trusted_by, trusted_without}
use Rattle.authenticode_core.proofs.GivenLists.{lent, none_lent}
use Rattle.authenticode_core.proofs.listing.expect_ca.Goals as goal

pub returns-in_default : goal.returns-in_default
returns-in_default c = trusted_without c.args.policy.now (data_elements c.args.signed_data.now) (none_lent c.args.policy.now.list c.in_default.is)

pub returns-in-Ok : goal.returns-in-Ok
returns-in-Ok c =
    let now : to_z w64 (of_z w64 c.args.policy.now.now) ≡ c.args.policy.now.now = omega (arith, ints) in
    let signer = c.signer_ca-ca.ensures in
    let on = subst (λ (n : ℤ). IsOnList c.in-Some.list.now n signer.0) now (c.in-Ok.ensures signer.0 signer.2) in
    trusted_by c.args.policy.now (data_elements c.args.signed_data.now) c.in-Some.list.now (lent c.args.policy.now.list c.in-Some.list c.in-Some.is)
    signer.0 signer.1 (inl on)

pub returns-in-Err : goal.returns-in-Err
returns-in-Err c =
    let now : to_z w64 (of_z w64 c.args.policy.now.now) ≡ c.args.policy.now.now = omega (arith, ints) in
    let signer = c.signer_ca-ca.ensures in
    let broken = subst (λ (n : ℤ). IsFirstBroken (name_rules c.in-Some.list.now n signer.0) c.in-Err.error) now (c.in-Err.ensures signer.0 signer.2) in
    excluded_or_not c.args.policy.now (data_elements c.args.signed_data.now) c.in-Some.list.now (lent c.args.policy.now.list c.in-Some.list c.in-Some.is)
    signer.0 signer.1 c.in-Err.error c.expect_excluded.result broken (c.expect_excluded.ensures signer.0 signer.2)
