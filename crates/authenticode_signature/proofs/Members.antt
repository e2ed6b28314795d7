-- The certificates of signed data, member by member.
use Rattle.std.proofs.Common.{◌≡◌, length, arith, List, [], ◌∷◌, ◌++◌, map, Option, Some, refl, sym, ap, subst, ◌∙◌, inl, inr, append_assoc, append-nil}
use Rattle.std.specs.Option.{option_map}
use Rattle.std.proofs.lemmas.List.{map-append}
use Rattle.der_core.specs.Optional.{members_of}
use Rattle.der_core.specs.DerElement.{DerElement}
use Rattle.der_core.specs.Each.{list_element}
use Rattle.der_core.specs.Encoding.{encoding, IsDer}
use Rattle.der_core.specs.Structure.{Fits}
use Rattle.der_core.specs.Facts.Owned.{same_encoded}
use Rattle.der_core.specs.Facts.Rows.{listed-row}
use Rattle.cms_types.specs.CertificateChoices.{certificate_choice}
use Rattle.cms_types.specs.declared.signed_data.certificate_choices.CertificateChoices.{CertificateChoices}
use Rattle.x509_core.specs.OwnedCertificate.{KeptCertificate, kept_octets}
use Rattle.x509_core.specs.Facts.CertificateParts.{parts_once, spelled_by}
use Rattle.x509_types.specs.Certificate.{IsCertificate}
use Rattle.x509_types.specs.CertificateElements.{CertificateElements, certificate_of, AreCertificateFields}
use Rattle.x509_types.specs.CertificateView.{IsCertView, view_elements}
use Rattle.x509_types.specs.declared.certificate.Certificate.{Certificate}
use Rattle.x509_types.specs.declared.certificate.view.CertView.{CertView}
use Rattle.authenticode_parts.specs.Carried.{elements_of}
use Rattle.authenticode_core.specs.CertificateBag.{IsBag, IsMember}

-- ---- one member

pub is_member : (element lent : DerElement) (view : CertView) (kept : KeptCertificate) → IsDer element → lent ≡ element → IsCertView lent view
    → kept_octets kept ≡ encoding element → IsMember element kept.elements
is_member element lent view kept der e is octets =
    let same : element ≡ certificate_of kept.elements = same_encoded element (certificate_of kept.elements) der kept.der (sym octets) in
    let elements : view_elements view ≡ kept.elements = parts_once (view_elements view) kept.elements (sym is.is ∙ e ∙ same) in
    record { is = same; fits = subst (λ (f : CertificateElements). Fits AreCertificateFields f) elements is.fits }

pub no_member : (element lent : DerElement) → lent ≡ element → ((c : Certificate) → IsCertificate lent c → ⊥) → (f : CertificateElements)
    → IsMember element f → ⊥
no_member element lent e none f m = none m.fits.0 (subst (λ (x : DerElement). IsCertificate x m.fits.0) (sym (e ∙ m.is)) (spelled_by f m.fits.0 m.fits.1))

-- ---- several

-- The certificates before the rest are read.
abbrev pub AreRead : List CertificateChoices → List CertificateChoices → List KeptCertificate → Type 0
AreRead all rest kept = (bag : List CertificateElements) → IsBag (map certificate_choice rest) bag
    → IsBag (map certificate_choice all) (elements_of kept ++ bag)

one_before : (kept kept' : List KeptCertificate) (k : KeptCertificate) (bag : List CertificateElements) → kept' ≡ kept ++ k ∷ []
    → elements_of kept ++ k.elements ∷ bag ≡ elements_of kept' ++ bag
one_before kept kept' k bag pushed =
    sym (ap (λ (ks : List KeptCertificate). elements_of ks ++ bag) pushed
    ∙ ap (λ (fs : List CertificateElements). fs ++ bag) (map-append (λ (c : KeptCertificate). c.elements) kept (k ∷ []))
    ∙ append_assoc (elements_of kept) (k.elements ∷ []) bag)

pub one_read : (all rest others : List CertificateChoices) (kept kept' : List KeptCertificate) (member : CertificateChoices) (element : DerElement)
    (k : KeptCertificate) → AreRead all rest kept → rest ≡ member ∷ others
    → element ≡ certificate_choice member → IsMember element k.elements → kept' ≡ kept ++ k ∷ [] → AreRead all others kept'
one_read all rest others kept kept' member element k read e at m pushed bag p =
    let here : IsMember (certificate_choice member) k.elements = subst (λ (x : DerElement). IsMember x k.elements) at m in
    let more : IsBag (map certificate_choice rest) (k.elements ∷ bag) =
    subst (λ (r : List CertificateChoices). IsBag (map certificate_choice r) (k.elements ∷ bag)) (sym e) (inr (k.elements, bag, refl, here, p)) in
    subst (λ (fs : List CertificateElements). IsBag (map certificate_choice all) fs) (one_before kept kept' k bag pushed) (read (k.elements ∷ bag) more)

empty : (rest : List CertificateChoices) → length rest ≡ 0 → rest ≡ []
empty [] e = refl
empty (member ∷ others) e = absurd (omega (arith, e))

pub all_read : (all rest : List CertificateChoices) (kept : List KeptCertificate) → AreRead all rest kept → length rest ≡ 0
    → IsBag (map certificate_choice all) (elements_of kept)
all_read all rest kept read e =
    subst (λ (fs : List CertificateElements). IsBag (map certificate_choice all) fs) (append-nil (elements_of kept))
    (read [] (subst (λ (r : List CertificateChoices). IsBag (map certificate_choice r) []) (sym (empty rest e)) refl))

-- ---- the field

pub members_in : (field : Option (List CertificateChoices)) (members lent : List CertificateChoices) → lent ≡ members → field ≡ Some members
    → map certificate_choice lent ≡ members_of (option_map (list_element 0xA0 certificate_choice) field)
members_in field members lent e f =
    ap (map certificate_choice) e ∙ sym (listed-row (map certificate_choice members))
    ∙ ap (λ (o : Option (List CertificateChoices)). members_of (option_map (list_element 0xA0 certificate_choice) o)) (sym f)
