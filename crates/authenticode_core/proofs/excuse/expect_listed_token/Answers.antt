use Rattle.std.proofs.Common.{◌≡◌, ℤ, MatchResult, arith, length, of_z, subst, to_z, w64}
use Rattle.std.proofs.lemmas.Int.{ints}
use Rattle.std.specs.Option.{option_copied}
use Rattle.der_core.specs.Rules.{IsFirstBroken}
use Rattle.authenticode_core.specs.Excuses.{places_from}
use Rattle.authenticode_core.specs.TrustList.{IsOnList, name_rules}
use Rattle.authenticode_core.proofs.GivenLists.{lent, none_given, none_lent}
use Rattle.authenticode_core.proofs.TokenBags.{goes_over, listed_or_not, some_places}
use Rattle.authenticode_core.proofs.excuse.expect_listed_token.Goals as goal

pub returns-in_default : goal.returns-in_default
returns-in_default c = λ bag is. λ list some.
    absurd (none_given (option_copied c.args.policy.now.list) list (none_lent c.args.policy.now.list c.in_default.is) some)

pub unreachable-requires : goal.unreachable-requires
unreachable-requires c =
    let bag = c.requires.0 in
    let gives = goes_over c.certificate_bag.result bag (c.certificate_bag.ensures.stands bag c.requires.1.is_bag) c.certificate_bag.ensures.place in
    some_places bag c.requires.1.named (c.in_default-authority_name.ensures bag (places_from 0 (length bag)) gives)

pub returns : goal.returns
returns c = λ bag is.
    let gives = goes_over c.certificate_bag.result bag (c.certificate_bag.ensures.stands bag is) c.certificate_bag.ensures.place in
    let named = c.in-Some-authority_name.ensures bag (places_from 0 (length bag)) gives in
    let now : to_z w64 (of_z w64 c.args.policy.now.now) ≡ c.args.policy.now.now = omega (arith, ints) in
    let on = subst (λ (n : ℤ). MatchResult c.expect_on_list.result (λ _. IsOnList c.in-Some.list.now n named.0)
    (IsFirstBroken (name_rules c.in-Some.list.now n named.0))) now (c.expect_on_list.ensures named.0 named.2) in
    listed_or_not c.args.policy.now bag c.in-Some.list.now (lent c.args.policy.now.list c.in-Some.list c.in-Some.is) named.0 named.1 c.expect_on_list.result on
