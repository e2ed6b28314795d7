-- The name of the CA of certificates, walked one after another.
use Rattle.std.proofs.Common.{◌≡◌, ◌⊎◌, ℕ, List, [], ◌∷◌, ◌++◌, Bool, true, false, Option, Some, None, MatchOption, inl, inr, refl, sym, ap, subst, ◌∙◌}
use Rattle.std.proofs.lemmas.Bool.{false≢true}
use Rattle.der_core.specs.DerElement.{DerElement}
use Rattle.der_core.specs.Encoding.{encoding}
use Rattle.x509_core.proofs.Depths.{ca_once}
use Rattle.x509_core.specs.CertType.{IsOfType}
use Rattle.x509_core.specs.declared.cert_type.CertType.TheVariants as types
use Rattle.x509_types.specs.CertificateElements.{CertificateElements}
use Rattle.x509_types.specs.CertificateView.{view_elements}
use Rattle.authenticode_core.specs.AuthorityName.{AreAt, HasAuthorityName, IsAuthorityName, IsLastAuthority, IsNameAt, IsNoAuthority, NoneIsAuthority}
use Rattle.authenticode_core.specs.Inside.AuthoritySteps.{IsNameAfter, IsNextName}
use Rattle.authenticode_core.specs.OthersCursor.{GivesPlaces, IsFirstOf}
use Rattle.authenticode_core.specs.Indices.{StandsAt}
use Rattle.authenticode_core.specs.declared.bag.others.Source.{Source}
use Rattle.authenticode_core.specs.declared.bag.BagCertificate.{BagCertificate}

-- ---- one certificate

pub leaf_is_none : (c : CertificateElements) → IsOfType c types.Leaf → IsNoAuthority c
leaf_is_none c leaf name (inl (intermediate, is)) = false≢true (ca_once c false true leaf intermediate.0)
leaf_is_none c leaf name (inr (root, is)) = false≢true (ca_once c false true leaf root.0)

pub unknown_is_none : (c : CertificateElements) → IsOfType c types.Unknown → IsNoAuthority c
unknown_is_none c unknown name (inl (intermediate, is)) = unknown true intermediate.0
unknown_is_none c unknown name (inr (root, is)) = unknown true root.0

-- ---- the name after certificates is that of the last CA certificate

-- the name is that of the last CA certificate of these, or without one, the name before them
abbrev IsLastOr : DerElement → List CertificateElements → DerElement → Type 0
IsLastOr name certificates after = IsLastAuthority certificates after ⊎ (NoneIsAuthority certificates × (after ≡ name))

in_front : (name next after : DerElement) (c : CertificateElements) (others : List CertificateElements) → IsNextName name c next → IsLastOr next others after
    → IsLastOr name (c ∷ others) after
in_front name next after c others step (inl last) = inl (record {
  before = c ∷ last.before;
  c = last.c;
  after = last.after;
  are = ap (λ (cs : List CertificateElements). c ∷ cs) last.are;
  named = last.named;
  last = last.last;
})
in_front name next after c others (inl named) (inr (none, same)) =
    inl (record { before = []; c = c; after = others; are = refl; named = subst (λ (n : DerElement). HasAuthorityName c n) (sym same) named; last = none })
in_front name next after c others (inr (no_authority, is)) (inr (none, same)) = inr ((no_authority, none), same ∙ is)

pub after_is : (bag : List CertificateElements) (name after : DerElement) (places : List ℕ) → IsNameAfter bag name places after
    → (certificates : List CertificateElements) × AreAt bag places certificates × IsLastOr name certificates after
after_is bag name after [] same = ([], refl, inr (tt, same))
after_is bag name after (place ∷ places) walked =
    let others = after_is bag walked.1 after places walked.4 in
    (walked.0 ∷ others.0, (walked.0, others.0, refl, walked.2, others.1), in_front name walked.1 after walked.0 others.0 walked.3 others.2)

-- ---- walked from the first

-- the name so far, and the indexes after it
pub record NamedSoFar (bag : List CertificateElements) (before : DerElement) (places : List ℕ) (source : Source) (octets : List ℕ) : Type 0 where
  pub behind : List ℕ
  pub gives : GivesPlaces source bag behind
  pub so_far : DerElement
  pub is : octets ≡ encoding so_far
  pub enough : (after : DerElement) → IsNameAfter bag so_far behind after → IsNameAfter bag before places after

pub none_named : (bag : List CertificateElements) (before : DerElement) (places : List ℕ) (source : Source) (octets : List ℕ) → GivesPlaces source bag places
    → octets ≡ encoding before → NamedSoFar bag before places source octets
none_named bag before places source octets gives is = record { behind = places; gives = gives; so_far = before; is = is; enough = λ after walked. walked }

one_more : (bag : List CertificateElements) (so_far next after : DerElement) (all : List ℕ) (place : ℕ) (c : CertificateElements) (behind : List ℕ)
    → IsFirstOf bag all place c behind → IsNextName so_far c next → IsNameAfter bag next behind after → IsNameAfter bag so_far all after
one_more bag so_far next after all place c behind first step walked =
    subst (λ (ps : List ℕ). IsNameAfter bag so_far ps after) (sym first.are) (c, next, first.stands, step, walked)

pub named_on : (bag : List CertificateElements) (before : DerElement) (places : List ℕ) (source new : Source) (octets octets' : List ℕ)
    (so_far : NamedSoFar bag before places source octets) (place : ℕ) (c : CertificateElements) (behind : List ℕ)
    → IsFirstOf bag so_far.behind place c behind → GivesPlaces new bag behind → (next : DerElement) → IsNextName so_far.so_far c next → octets' ≡ encoding next
    → NamedSoFar bag before places new octets'
named_on bag before places source new octets octets' so_far place c behind first gives next step is = record {
  behind = behind;
  gives = gives;
  so_far = next;
  is = is;
  enough = λ after walked. so_far.enough after (one_more bag so_far.so_far next after so_far.behind place c behind first step walked);
}

pub named_all : (bag : List CertificateElements) (before : DerElement) (places : List ℕ) (source : Source) (octets : List ℕ)
    (so_far : NamedSoFar bag before places source octets) → so_far.behind ≡ []
    → (after : DerElement) × IsNameAfter bag before places after × (octets ≡ encoding after)
named_all bag before places source octets so_far none =
    (so_far.so_far, so_far.enough so_far.so_far (subst (λ (ps : List ℕ). IsNameAfter bag so_far.so_far ps so_far.so_far) (sym none) refl), so_far.is)

-- ---- the first certificate, and those behind it

pub name_of_all : (bag : List CertificateElements) (places : List ℕ) (place : ℕ) (c : CertificateElements) (behind : List ℕ) (after : DerElement)
    → IsFirstOf bag places place c behind → IsNameAfter bag c.tbs.issuer behind after → IsNameAt bag places after
name_of_all bag places place c behind after first walked =
    let others = after_is bag c.tbs.issuer after behind walked in
    record {
      certificates = c ∷ others.0;
      at = subst (λ (ps : List ℕ). AreAt bag ps (c ∷ others.0)) (sym first.are) (c, others.0, refl, first.stands, others.1);
      is = others.2;
    }
