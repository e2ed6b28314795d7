-- The bag of members, one member at a time.
use Rattle.std.proofs.Common.{◌≡◌, ◌+◌, ◌<◌, ◌≤◌, ◌^◌, List, [], ◌∷◌, Option, Some, None, MatchOption}
use Rattle.std.proofs.Common.{length, refl, sym, ap, subst, ◌∙◌, inl, inr, arith, length-append}
use Rattle.der_core.specs.DerElement.{DerElement, DerElements, Nil, Cons, Primitive, Constructed, listed, kids_of}
use Rattle.der_core.specs.Encoding.{encoding, encodings, IsDer}
use Rattle.der_core.specs.Facts.Fronts.{some_octets}
use Rattle.der_core.specs.declared.elem.Elem.{Elem}
use Rattle.der_core.specs.declared.kids.Kids.{Kids}
use Rattle.x509_types.specs.Certificate.{IsCertificate}
use Rattle.x509_types.specs.CertificateElements.{CertificateElements}
use Rattle.x509_types.specs.declared.certificate.Certificate.{Certificate}
use Rattle.authenticode_core.specs.CertificateBag.{IsMember, IsBag}
use Rattle.authenticode_core.specs.LeftMembers.{left_members}
use Rattle.authenticode_core.proofs.OneCertificate.{one_certificate}

-- ---- a skipped member

pub no_member : (member : DerElement) → ((c : Certificate) → IsCertificate member c → ⊥) → (c : CertificateElements) → IsMember member c → ⊥
no_member member refused c m = refused m.fits.0 (record { elements = c; is = m.is; spelled = m.fits.1 })

passed_over : (member : DerElement) (left : List DerElement) (bag : List CertificateElements) → ((c : CertificateElements) → IsMember member c → ⊥)
    → IsBag (member ∷ left) bag → IsBag left bag
passed_over member left bag refused (inl p) = p.1
passed_over member left bag refused (inr p) = absurd (refused p.0 p.3)

pub past : (members left : List DerElement) (member : DerElement) → members ≡ member ∷ left → ((c : Certificate) → IsCertificate member c → ⊥)
    → (bag : List CertificateElements) → IsBag members bag → IsBag left bag
past members left member e refused bag p = passed_over member left bag (no_member member refused) (subst (λ (ms : List DerElement). IsBag ms bag) e p)

pub before_past : (members left : List DerElement) (member : DerElement) → members ≡ member ∷ left → ((c : Certificate) → IsCertificate member c → ⊥)
    → (bag : List CertificateElements) → IsBag left bag → IsBag members bag
before_past members left member e refused bag p = subst (λ (ms : List DerElement). IsBag ms bag) (sym e) (inl (no_member member refused, p))

-- ---- a member that is a certificate

first_only : (member : DerElement) (left : List DerElement) (c : CertificateElements) (bag : List CertificateElements) → IsMember member c
    → IsBag (member ∷ left) bag
    → (others : List CertificateElements) × (bag ≡ c ∷ others) × IsBag left others
first_only member left c bag m (inl p) = absurd (p.0 c m)
first_only member left c bag m (inr p) =
    (p.1, p.2 ∙ ap (λ (d : CertificateElements). d ∷ p.1) (one_certificate p.0 c (sym p.3.is ∙ m.is)), p.4)

pub begins_only : (members left : List DerElement) (member : DerElement) (c : CertificateElements) → members ≡ member ∷ left → IsMember member c
    → (bag : List CertificateElements) → IsBag members bag → (others : List CertificateElements) × (bag ≡ c ∷ others) × IsBag left others
begins_only members left member c e m bag p = first_only member left c bag m (subst (λ (ms : List DerElement). IsBag ms bag) e p)

pub begins : (members left : List DerElement) (member : DerElement) (c : CertificateElements) → members ≡ member ∷ left → IsMember member c
    → (others : List CertificateElements) → IsBag left others → IsBag members (c ∷ others)
begins members left member c e m others p = subst (λ (ms : List DerElement). IsBag ms (c ∷ others)) (sym e) (inr (c, others, refl, m, p))

-- ---- members have at most one bag

bags_of : (members : List DerElement) (a b : List CertificateElements) → IsBag members a → IsBag members b → a ≡ b
bags_of [] a b p q = p ∙ sym q
bags_of (member ∷ members) a b (inl p) q = bags_of members a b p.1 (passed_over member members b p.0 q)
bags_of (member ∷ members) a b (inr p) q =
    let others = first_only member members p.0 b p.3 q in
    p.2 ∙ ap (λ (rest : List CertificateElements). p.0 ∷ rest) (bags_of members p.1 others.0 p.4 others.2) ∙ sym others.1

pub one_bag : (members : List DerElement) (a b : List CertificateElements) → IsBag members a → IsBag members b → a ≡ b
one_bag = bags_of

-- ---- the number of members

count_within : (kids : DerElements) → length (listed kids) ≤ length (encodings kids)
count_within Nil = omega arith
count_within (Cons kid kids) = omega (arith, length-append (encoding kid) (encodings kids), some_octets kid, count_within kids)

pub counted_kids : (element : DerElement) (kids : List DerElement) → IsDer element → kids_of element ≡ Some kids → length kids < 2 ^ 32
counted_kids (Primitive tag content) kids der e = absurd cc
counted_kids (Constructed tag elements) kids der e =
    let same : listed elements ≡ kids = cc in
    let all : length (listed elements) < 2 ^ 32 = omega (arith, der.short.0, count_within elements) in
    subst (λ (ks : List DerElement). length ks < 2 ^ 32) same all

pub counted_within : (elem : Elem) (r : Option Kids) → MatchOption r (kids_of elem.is.0 ≡ None) (λ k. kids_of elem.is.0 ≡ Some k.are.0)
    → 0 + length (left_members r) < 2 ^ 32
counted_within elem None none = omega arith
counted_within elem (Some kids) e = omega (arith, counted_kids elem.is.0 kids.are.0 elem.is.1.0 e)
