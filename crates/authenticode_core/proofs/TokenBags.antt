-- The certificates of a token, and whether their CA is on a list.
use Rattle.std.proofs.Common.{◌≡◌, ◌+◌, ℕ, List, [], ◌∷◌, length, Result, Ok, Err, MatchResult, Some, refl, sym, ap, subst, arith}
use Rattle.std.specs.Option.{option_copied}
use Rattle.der_core.specs.DerElement.{DerElement}
use Rattle.der_core.specs.Rules.{IsFirstBroken}
use Rattle.x509_types.specs.CertificateElements.{CertificateElements}
use Rattle.authenticode_core.specs.AuthorityName.{IsNameAt}
use Rattle.authenticode_core.specs.BagCursor.{StandsIn}
use Rattle.authenticode_core.specs.Excuses.{IsListedToken, IsUnlistedStamp, NamesTimeStamping, places_from}
use Rattle.authenticode_core.specs.OthersCursor.{GoesOver}
use Rattle.authenticode_core.specs.TrustList.{IsOnList, name_rules}
use Rattle.authenticode_core.specs.declared.ctl.CertificateTrustList.{CertificateTrustList}
use Rattle.authenticode_core.specs.declared.error.AuthenticodeError.{AuthenticodeError}
use Rattle.authenticode_core.specs.declared.policy.Policy.{Policy}
use Rattle.authenticode_core.specs.declared.bag.Bag.{Bag}
use Rattle.authenticode_core.proofs.GivenLists.{given_once}
use Rattle.authenticode_core.proofs.StampSteps.{some_place}

pub goes_over : (cursor : Bag) (bag : List CertificateElements) → StandsIn cursor bag → cursor.place ≡ 0 → GoesOver cursor bag (places_from 0 (length bag))
goes_over cursor bag stands first = record {
  stands = stands;
  count = length bag;
  counted = omega (arith, first);
  are = ap (λ (n : ℕ). places_from n (length bag)) (sym first);
}

pub some_places : (bag : List CertificateElements) → NamesTimeStamping bag → places_from 0 (length bag) ≡ [] → ⊥
some_places [] named none = some_place [] named refl
some_places (c ∷ others) named none = absurd cc

pub listed_or_not : {X : Type 0} (policy : Policy) (bag : List CertificateElements) (list : CertificateTrustList) → option_copied policy.list ≡ Some list
    → (ca : DerElement) → IsNameAt bag (places_from 0 (length bag)) ca → (r : Result X AuthenticodeError)
    → MatchResult r (λ _. IsOnList list policy.now ca) (IsFirstBroken (name_rules list policy.now ca))
    → MatchResult r (λ _. IsListedToken policy bag) (IsUnlistedStamp policy bag)
listed_or_not policy bag list is ca named (Ok x) on =
    λ other some. (ca, named, subst (λ (l : CertificateTrustList). IsOnList l policy.now ca) (given_once (option_copied policy.list) list other is some) on)
listed_or_not policy bag list is ca named (Err e) broken = (list, is, ca, named, broken)
