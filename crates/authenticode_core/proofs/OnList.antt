-- The name of a CA is on a list, or breaks a rule that reports one error.
use Rattle.std.proofs.Common.{◌≡◌, ℤ, List, Option, Some, None, Result, Ok, Err, MatchResult, inl, inr, refl, sym, ap, subst, ◌∙◌}
use Rattle.cms_content.specs.ContentValue.{kind_of_content}
use Rattle.cms_content.specs.declared.content_value.ContentValue.{ContentValue}
use Rattle.cms_content.specs.declared.content_value.ContentValue.TheVariants as contents
use Rattle.cms_content.specs.declared.ctl.Ctl.{Ctl}
use Rattle.cms_content.specs.declared.ctl_entry.CTLEntry.{CTLEntry}
use Rattle.der_core.specs.DerElement.{DerElement}
use Rattle.der_core.specs.Encoding.{encoding}
use Rattle.der_core.specs.Rules.{IsFirstBroken, IsMet}
use Rattle.der_core.proofs.RuleLists.{AreMet, AreReturnedOnce, IsReturnedOnce, none_broken, one_broken}
use Rattle.cms_content.proofs.OneListing.{listed_unbroken, listing_once}
use Rattle.cms_content.specs.Listing.{listing_rules}
use Rattle.cms_content.specs.declared.listing.error.ListingError.{ListingError}
use Rattle.authenticode_core.specs.ContentRefusal.{of_ctl}
use Rattle.authenticode_core.specs.Inside.ListContent.{AreEntriesIn, IsOtherContent}
use Rattle.authenticode_core.specs.TrustList.{HasEntries, HasNoContent, HasOtherContent, IsNoList, IsOnList}
use Rattle.authenticode_core.specs.TrustList.{IsUnlisted, content_of, content_rules, name_rules, of_listing}
use Rattle.authenticode_core.specs.declared.ctl.CertificateTrustList.{CertificateTrustList}
use Rattle.authenticode_core.specs.declared.ctl_error.CtlError.{CtlError}
use Rattle.authenticode_core.specs.declared.ctl_error.CtlError.TheVariants as ctl
use Rattle.authenticode_core.specs.declared.error.AuthenticodeError.{AuthenticodeError}
use Rattle.authenticode_core.specs.declared.error.AuthenticodeError.TheVariants as errors

-- ---- the content

one_list : (a b : Ctl) → Some (contents.CertificateTrustList a) ≡ Some (contents.CertificateTrustList b) → a ≡ b
one_list a b e = cc

one_content : (a b : ContentValue) → Some a ≡ Some b → a ≡ b
one_content a b e = cc

no_content : (o : Option ContentValue) (a : ContentValue) → o ≡ Some a → o ≡ None → ⊥
no_content o a some none = absurd (cc (some, none))

pub entries_or_not : {X : Type 0} (now : X → List CTLEntry) (list : CertificateTrustList) (content : ContentValue) (r : Result X CtlError)
    → content_of list ≡ Some content
    → MatchResult r (λ x. AreEntriesIn content (now x)) (λ e. IsOtherContent content × (e ≡ ctl.IncorrectContentValue))
    → MatchResult r (λ x. HasEntries list (now x)) (IsFirstBroken (content_rules list))
entries_or_not now list content (Ok x) is are = (are.0, is ∙ ap Some are.1, are.2)
entries_or_not now list content (Err e) is other = inr ((λ a broken. no_content (content_of list) content is broken.0), inl (content, is, other.0, other.1))

module _ (list : CertificateTrustList) where
  pub entries_once : (a b : List CTLEntry) → HasEntries list a → HasEntries list b → a ≡ b
  entries_once a b p q = p.2 ∙ ap (λ (content : Ctl). content.entries) (one_list p.0 q.0 (sym p.1 ∙ q.1)) ∙ sym q.2

  other_content : (entries : List CTLEntry) → HasEntries list entries → IsMet (HasOtherContent list)
  other_content entries has = λ e broken. broken.2 (ap kind_of_content (one_content broken.0 (contents.CertificateTrustList has.0) (sym broken.1 ∙ has.1)))

  content_met : (entries : List CTLEntry) → HasEntries list entries → AreMet (content_rules list)
  content_met entries has = (λ e broken. no_content (content_of list) (contents.CertificateTrustList has.0) has.1 broken.0, (other_content entries has, tt))

  content_returned : AreReturnedOnce (content_rules list)
  content_returned = (λ a b p q. p.1 ∙ sym q.1, (λ a b p q. p.3 ∙ sym q.3, tt))

  -- the error for the content isn't out of memory
  returned_so : (e : CtlError) → IsFirstBroken (content_rules list) e → of_ctl e ≡ errors.CtlError e
  returned_so e (inl p) = ap of_ctl p.1 ∙ sym (ap errors.CtlError p.1)
  returned_so e (inr (met, inl p)) = ap of_ctl p.3 ∙ sym (ap errors.CtlError p.3)
  returned_so e (inr (met, inr none)) = absurd none.1

  -- ---- names

  module _ (now : ℤ) (name : DerElement) where
    no_list_once : IsReturnedOnce (IsNoList list)
    no_list_once = λ a b p q. p.2 ∙ ap errors.CtlError (one_broken (content_rules list) content_returned p.0 q.0 p.1 q.1) ∙ sym q.2

    unlisted_once : IsReturnedOnce (IsUnlisted list now name)
    unlisted_once = λ a b p q.
        let there = subst (λ (entries : List CTLEntry). IsFirstBroken (listing_rules entries (encoding name) now) p.2) (entries_once p.0 q.0 p.1 q.1) p.3 in
        p.4 ∙ ap of_listing (listing_once q.0 (encoding name) now p.2 q.2 there q.3) ∙ sym q.4

    pub name_returned : AreReturnedOnce (name_rules list now name)
    name_returned = (no_list_once, (unlisted_once, tt))

    list_met : (entries : List CTLEntry) → HasEntries list entries → IsMet (IsNoList list)
    list_met entries has = λ e broken. none_broken (content_rules list) (content_met entries has) broken.0 broken.1

    listed_met : IsOnList list now name → IsMet (IsUnlisted list now name)
    listed_met on = λ e broken.
        let there = subst (λ (entries : List CTLEntry). IsFirstBroken (listing_rules entries (encoding name) now) broken.2)
        (entries_once broken.0 on.0 broken.1 on.1) broken.3 in
        listed_unbroken on.0 (encoding name) now broken.2 on.2 there

    pub on_list_met : IsOnList list now name → AreMet (name_rules list now name)
    on_list_met on = (list_met on.0 on.1, (listed_met on, tt))

    pub on_list_unbroken : (e : AuthenticodeError) → IsOnList list now name → IsFirstBroken (name_rules list now name) e → ⊥
    on_list_unbroken e on broken = none_broken (name_rules list now name) (on_list_met on) e broken

    pub name_returned_once : (a b : AuthenticodeError) → IsFirstBroken (name_rules list now name) a → IsFirstBroken (name_rules list now name) b → a ≡ b
    name_returned_once a b p q = one_broken (name_rules list now name) name_returned a b p q

    -- ---- refusals

    pub no_list : (e : CtlError) → IsFirstBroken (content_rules list) e → IsFirstBroken (name_rules list now name) (of_ctl e)
    no_list e broken = inl (e, broken, returned_so e broken)

    pub not_listed : (entries : List CTLEntry) (e : ListingError) → HasEntries list entries → IsFirstBroken (listing_rules entries (encoding name) now) e
        → IsFirstBroken (name_rules list now name) (of_listing e)
    not_listed entries e has broken = inr (list_met entries has, inl (entries, has, e, broken, refl))
