-- Certificates in signed data, one after another.
use Rattle.std.proofs.Common.{◌≡◌, length, arith, List, [], ◌∷◌, ◌++◌, map, refl, sym, ap, ◌∙◌, append-nil}
use Rattle.der_core.specs.DerElement.{DerElement}
use Rattle.cms_types.specs.CertificateChoices.{certificate_choice}
use Rattle.cms_types.specs.declared.signed_data.certificate_choices.CertificateChoices.{CertificateChoices}
use Rattle.x509_core.specs.OwnedCertificate.{KeptCertificate}
use Rattle.x509_types.specs.CertificateElements.{certificate_of}
use Rattle.authenticode_parts.specs.Carried.{elements_of}

-- the elements of the certificates
abbrev pub whole_elements : List KeptCertificate → List DerElement
whole_elements certificates = map certificate_of (elements_of certificates)

-- Those before the rest are stored.
abbrev pub AreKept : List KeptCertificate → List KeptCertificate → List CertificateChoices → Type 0
AreKept all rest members = map certificate_choice members ++ whole_elements rest ≡ whole_elements all

pub none_left : (rest : List KeptCertificate) → length rest ≡ 0 → rest ≡ []
none_left [] e = refl
none_left (k ∷ others) e = absurd (omega (arith, e))

pub all_kept : (all rest : List KeptCertificate) (members : List CertificateChoices) → AreKept all rest members → length rest ≡ 0
    → map certificate_choice members ≡ whole_elements all
all_kept all rest members kept e =
    sym (append-nil (map certificate_choice members))
    ∙ ap (λ (ks : List KeptCertificate). map certificate_choice members ++ whole_elements ks) (sym (none_left rest e)) ∙ kept
