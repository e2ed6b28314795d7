-- Whether a table begins with signed data.
use Rattle.std.proofs.Common.{◌≡◌, ◌≢◌, ℕ, List, ◌++◌, length, drop, Option, Some, None, Ok, false, MatchOption, inl, inr, sym, ap, subst, ◌∙◌}
use Rattle.std.specs.Prelude.{replicate}
use Rattle.std.proofs.lemmas.List.{drop_at, take-append-drop}
use Rattle.cms_types.specs.Pkcs7.{pkcs7}
use Rattle.cms_types.specs.SignedDataElements.{SignedDataElements}
use Rattle.cms_types.specs.SignedView.{IsSignedView, data_elements}
use Rattle.cms_types.specs.declared.signed_data.pkcs7.Pkcs7Certificate.{Pkcs7Certificate}
use Rattle.cms_types.specs.declared.signed_data.view.SignedView.{SignedView}
use Rattle.der_core.specs.DerElement.{DerElement}
use Rattle.der_core.specs.Encoding.{encoding, IsPaddedEncoding}
use Rattle.der_core.specs.Facts.Fronts.{fronts}
use Rattle.der_core.specs.Reading.{IsFirst}
use Rattle.der_core.specs.declared.fault.Malformed.{Malformed}
use Rattle.wincert_core.specs.Refusal.{contents_in}
use Rattle.authenticode_core.specs.Basic.{HasSignedData, IsMalformedPadded, RefusesValue}
use Rattle.authenticode_core.specs.Policy.{first_policy}
use Rattle.authenticode_core.specs.declared.error.CheckError.{CheckError}
use Rattle.authenticode_core.specs.declared.policy.Policy.{Policy}
use Rattle.authenticode_core.proofs.OneAnswer.{FaultsAreOne, FaultsExclude, refused_there, value_refuses}
use Rattle.authenticode_core.proofs.OneData.{lies_there, one_element, same_certificate}
use Rattle.authenticode_core.proofs.Padded.{IsFirst-padded}

-- a policy under which no form is checked
unchecked : Policy
unchecked = record first_policy { basic = false }

-- a table that is refused for what its certificate is has no signed data
pub unread : FaultsAreOne → FaultsExclude → (table : List ℕ) (e : CheckError) → RefusesValue table e → (f : SignedDataElements) → HasSignedData table f → ⊥
unfolding unchecked
unread at_most_one exclude table e refuses f has =
    (refused_there at_most_one exclude unchecked table f e has (value_refuses unchecked table e refuses)).2

one_first : (octets : List ℕ) (a b : DerElement) (m n : ℕ) → IsFirst octets a m → IsFirst octets b n → (a ≡ b) × (m ≡ n)
one_first octets a b m n first second =
    let same =
    fronts a b (drop m octets) (drop n octets) first.der.formed second.der.formed first.der.short second.der.short (split first ∙ sym (split second)) in
    (same.0, first.many ∙ ap (λ t. length (encoding t)) same.0 ∙ sym second.many) where
      split : {t : DerElement} {k : ℕ} → IsFirst octets t k → encoding t ++ drop k octets ≡ octets
      split {t} {k} h = ap (λ front. front ++ drop k octets) (sym h.front) ∙ take-append-drop k octets

not_both : FaultsExclude → (octets : List ℕ) (element : DerElement) (m : Malformed) → IsPaddedEncoding octets element → IsMalformedPadded octets m → ⊥
not_both exclude octets element m padded (inl fault) =
    exclude octets m.at m.fault fault element _ (IsFirst-padded octets element padded)
not_both exclude octets element m padded (inr h) =
    let same = one_first octets element h.1.element _ m.at (IsFirst-padded octets element padded) h.1.first in
    h.1.unpadded (padded.1, padded.2, ap (drop m.at) padded.3 ∙ drop_at (encoding element) (replicate padded.1 0) m.at same.1)

-- a malformed certificate is no signed data
pub malformed : FaultsExclude → (table certificate : List ℕ) (m : Malformed) → contents_in table ≡ Ok certificate → IsMalformedPadded certificate m
    → (f : SignedDataElements) → HasSignedData table f → ⊥
malformed exclude table certificate m named cause f has =
    let same = same_certificate table has.certificate certificate has.named named in
    not_both exclude certificate (pkcs7 has.value) m (subst (λ (c : List ℕ). IsPaddedEncoding c (pkcs7 has.value)) same has.spelled) cause

module _ (table certificate : List ℕ) (element : DerElement) (named : contents_in table ≡ Ok certificate) (spelled : IsPaddedEncoding certificate element) where
  pub read_in : (r : Option SignedView) → MatchOption r ((value : Pkcs7Certificate) → element ≢ pkcs7 value) (IsSignedView element)
      → MatchOption r ((f : SignedDataElements) → HasSignedData table f → ⊥) (λ view. HasSignedData table (data_elements view))
  read_in None none = λ f has.
      let same = same_certificate table has.certificate certificate has.named named in
      none has.value (one_element certificate element (pkcs7 has.value) spelled (subst (λ (c : List ℕ). IsPaddedEncoding c (pkcs7 has.value)) same has.spelled))
  read_in (Some view) is = lies_there table element view (record { certificate = certificate; named = named; spelled = spelled; is = is })
