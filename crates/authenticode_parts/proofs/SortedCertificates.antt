-- Certificates in a signature, one after another, without the roots.
use Rattle.std.proofs.Common.{◌≡◌, ◌↔◌, IsTrue, true, false, Result, Ok, Err, IfOk, length, arith, List, []}
use Rattle.std.proofs.Common.{◌∷◌, ◌++◌, map, refl, sym, ap, subst, ◌∙◌, inl, inr, append_assoc, append-nil}
use Rattle.std.proofs.lemmas.List.{map-append}
use Rattle.der_core.specs.DerElement.{DerElement}
use Rattle.cms_types.specs.CertificateChoices.{certificate_choice}
use Rattle.cms_types.specs.declared.signed_data.certificate_choices.CertificateChoices.{CertificateChoices}
use Rattle.x509_core.specs.CertType.{IsOfType}
use Rattle.x509_core.specs.OwnedCertificate.{KeptCertificate}
use Rattle.x509_core.specs.declared.cert_type.CertType.TheVariants as types
use Rattle.x509_core.proofs.Depths.{ca_once}
use Rattle.x509_types.specs.CertificateElements.{CertificateElements, certificate_of}
use Rattle.authenticode_parts.specs.Carried.{AreWithoutRoots, HoldsCarried, HoldsWithoutRoots, IsRootCertificate, elements_of}
use Rattle.authenticode_parts.proofs.CarriedCertificates.{whole_elements, none_left}

pushed_before : (members members' : List CertificateChoices) (member : CertificateChoices) (element : DerElement) (later : List DerElement)
    → certificate_choice member ≡ element → members' ≡ members ++ member ∷ []
    → map certificate_choice members ++ element ∷ later ≡ map certificate_choice members' ++ later
pushed_before members members' member element later is pushed =
    sym (ap (λ (ms : List CertificateChoices). map certificate_choice ms ++ later) pushed
    ∙ ap (λ (es : List DerElement). es ++ later) (map-append certificate_choice members (member ∷ []))
    ∙ append_assoc (map certificate_choice members) (certificate_choice member ∷ []) later
    ∙ ap (λ (e : DerElement). map certificate_choice members ++ e ∷ later) is)

-- ---- the certificates without the roots

-- Of those before the rest, the right ones are stored.
abbrev pub AreSorted : List KeptCertificate → List KeptCertificate → List CertificateChoices → Type 0
AreSorted all rest members =
    (later : List CertificateElements) → AreWithoutRoots (elements_of rest) later
    → HoldsWithoutRoots (elements_of all) (map certificate_choice members ++ map certificate_of later)

pub other_kept : (all rest others : List KeptCertificate) (k : KeptCertificate) (members members' : List CertificateChoices) (member : CertificateChoices)
    → AreSorted all rest members → rest ≡ k ∷ others → (IsRootCertificate k.elements → ⊥)
    → certificate_choice member ≡ certificate_of k.elements → members' ≡ members ++ member ∷ [] → AreSorted all others members'
other_kept all rest others k members members' member sorted e other is pushed later p =
    subst (HoldsWithoutRoots (elements_of all)) (pushed_before members members' member (certificate_of k.elements) (map certificate_of later) is pushed)
    (sorted (k.elements ∷ later)
    (subst (λ (ks : List KeptCertificate). AreWithoutRoots (elements_of ks) (k.elements ∷ later)) (sym e) (inr (other, later, refl, p))))

pub all_sorted : (all rest : List KeptCertificate) (members : List CertificateChoices) → AreSorted all rest members → length rest ≡ 0
    → HoldsWithoutRoots (elements_of all) (map certificate_choice members)
all_sorted all rest members sorted e =
    subst (HoldsWithoutRoots (elements_of all)) (append-nil (map certificate_choice members))
    (sorted [] (subst (λ (ks : List KeptCertificate). AreWithoutRoots (elements_of ks) []) (sym (none_left rest e)) refl))

-- ---- a single one, or those

pub others_carried : (bag : List KeptCertificate) (members : List DerElement) → (length bag ≡ 1 → ⊥) → HoldsWithoutRoots (elements_of bag) members
    → HoldsCarried (elements_of bag) members
others_carried [] members e h = h
others_carried (k ∷ []) members e h = absurd (e refl)
others_carried (k ∷ l ∷ bag) members e h = h

-- ---- whether one is a root certificate

no_intermediate : (f : CertificateElements) → IsOfType f types.Intermediate → IsRootCertificate f → ⊥
no_intermediate f other root = other.1 root.1

no_leaf : (f : CertificateElements) → IsOfType f types.Leaf → IsRootCertificate f → ⊥
no_leaf f other root = absurd (cc (ca_once f false true other root.0))

no_unknown : (f : CertificateElements) → IsOfType f types.Unknown → IsRootCertificate f → ⊥
no_unknown f other root = other true root.0

never : {P : Type 0} → (P → ⊥) → IsTrue false ↔ P
never none = (λ t. absurd (cc t), λ p. absurd (none p))

pub is_root : (f : CertificateElements) → IsRootCertificate f → IsTrue true ↔ IsRootCertificate f
is_root f root = (λ t. root, λ r. refl)

pub is_intermediate : (f : CertificateElements) → IsOfType f types.Intermediate → IsTrue false ↔ IsRootCertificate f
is_intermediate f other = never (no_intermediate f other)

pub is_leaf : (f : CertificateElements) → IsOfType f types.Leaf → IsTrue false ↔ IsRootCertificate f
is_leaf f other = never (no_leaf f other)

pub is_unknown : (f : CertificateElements) → IsOfType f types.Unknown → IsTrue false ↔ IsRootCertificate f
is_unknown f other = never (no_unknown f other)

-- those of several
pub others_of : {E : Type 0} (bag : List KeptCertificate) (r : Result (List CertificateChoices) E) → (length bag ≡ 1 → ⊥)
    → IfOk r (λ members. HoldsWithoutRoots (elements_of bag) (map certificate_choice members))
    → IfOk r (λ members. HoldsCarried (elements_of bag) (map certificate_choice members))
others_of bag (Ok members) several holds = others_carried bag (map certificate_choice members) several holds
others_of bag (Err e) several holds = tt

pub not_root : {P : Type 0} → IsTrue false ↔ P → P → ⊥
not_root w p = absurd (cc (w.1 p))
