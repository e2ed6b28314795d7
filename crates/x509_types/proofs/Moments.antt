-- Times and keys by the elements that they are in.
use Rattle.std.proofs.Common.{◌≡◌, ◌≢◌, ℕ, List, [], ◌∷◌, Some, refl, sym, ◌∙◌, arith}
use Rattle.der_core.specs.DerElement.{DerElement, Primitive}
use Rattle.der_core.specs.Elements.{sequence}
use Rattle.asn1_types.specs.Elements.{utc_time, generalized_time, time}
use Rattle.asn1_types.specs.Time.{utc_contents, generalized_contents}
use Rattle.asn1_types.specs.Facts.Elements.{unlike_tags}
use Rattle.asn1_types.specs.declared.utc_time.UTCTime.{UTCTime}
use Rattle.asn1_types.specs.declared.generalized_time.GeneralizedTime.{GeneralizedTime}
use Rattle.asn1_types.specs.declared.time.Time.{Time}
use Rattle.asn1_types.specs.declared.time.Time.TheVariants as forms
use Rattle.key_types.specs.AlgorithmIdentifier.{algorithm_identifier}
use Rattle.key_types.specs.PublicKeyInfo.{subject_public_key, public_key_info}
use Rattle.key_types.specs.declared.key_info.SubjectPublicKeyInfo.{SubjectPublicKeyInfo}
use Rattle.key_types.specs.declared.subject_key.SubjectKey.{SubjectKey}
use Rattle.key_types.specs.declared.subject_key.SubjectKey.TheVariants as keys
use Rattle.x509_types.specs.CertificateFields.{bits_of}
use Rattle.x509_types.specs.InnerFields.{key_payload}
use Rattle.x509_types.specs.Validity.{validity}
use Rattle.x509_types.specs.declared.certificate.validity.Validity.{Validity}

same_contents : (tag : ℕ) (x y : List ℕ) → Primitive tag x ≡ Primitive tag y → x ≡ y
same_contents tag x y e = cc

-- octets that aren't the contents of a UTCTime aren't those of a time under its tag
pub no_utc : (element : DerElement) (contents : List ℕ) → element ≡ Primitive 0x17 contents → ((moment : UTCTime) → contents ≢ utc_contents moment)
    → (value : Time) → element ≢ time value
no_utc element contents is none (forms.Utc moment) e = none moment (same_contents 0x17 contents (utc_contents moment) (sym is ∙ e))
no_utc element contents is none (forms.Generalized moment) e =
    unlike_tags (Primitive 0x17 contents) (generalized_time moment) (λ t. omega (arith, t)) (sym is ∙ e)

pub no_generalized : (element : DerElement) (contents : List ℕ) → element ≡ Primitive 0x18 contents
    → ((moment : GeneralizedTime) → contents ≢ generalized_contents moment) → (value : Time) → element ≢ time value
no_generalized element contents is none (forms.Utc moment) e = unlike_tags (Primitive 0x18 contents) (utc_time moment) (λ t. omega (arith, t)) (sym is ∙ e)
no_generalized element contents is none (forms.Generalized moment) e = none moment (same_contents 0x18 contents (generalized_contents moment) (sym is ∙ e))

-- an element with neither tag isn't a time
pub no_time : (element : DerElement) → ((contents : List ℕ) → element ≢ Primitive 0x17 contents) → ((contents : List ℕ) → element ≢ Primitive 0x18 contents)
    → (value : Time) → element ≢ time value
no_time element utc generalized (forms.Utc moment) e = utc (utc_contents moment) e
no_time element utc generalized (forms.Generalized moment) e = generalized (generalized_contents moment) e

same_two : (a b x y : DerElement) → sequence (a ∷ b ∷ []) ≡ sequence (x ∷ y ∷ []) → (a ≡ x) × (b ≡ y)
same_two a b x y e = (cc, cc)

-- a validity has its two times
pub ends_of : (element first second : DerElement) (value : Validity) → element ≡ sequence (first ∷ second ∷ []) → element ≡ validity value
    → (first ≡ time value.not_before) × (second ≡ time value.not_after)
ends_of element first second value is e = same_two first second (time value.not_before) (time value.not_after) (sym is ∙ e)

-- the second kid of a key and its algorithm is that of the key
pub key_of : (element algorithm key : DerElement) (info : SubjectPublicKeyInfo) → element ≡ sequence (algorithm ∷ key ∷ []) → element ≡ public_key_info info
    → key ≡ subject_public_key info.subject_public_key
key_of element algorithm key info is e =
    (same_two algorithm key (algorithm_identifier info.algorithm) (subject_public_key info.subject_public_key) (sym is ∙ e)).1

-- the element of a key is a BIT STRING, whose contents begin with a count of unused bits
pub bits_stand : (key : SubjectKey) → (unused : ℕ) × (subject_public_key key ≡ Primitive 0x03 (unused ∷ key_payload key))
bits_stand (keys.Rsa key) = (0, refl)
bits_stand (keys.Ec bits) = (bits.unused, refl)
bits_stand (keys.Ed bits) = (bits.unused, refl)
bits_stand (keys.Mldsa bits) = (bits.unused, refl)

-- an element that isn't a BIT STRING, or has no contents, isn't a key's
pub no_bits : (element algorithm key : DerElement) (info : SubjectPublicKeyInfo) → element ≡ sequence (algorithm ∷ key ∷ [])
    → ((contents : List ℕ) → key ≢ Primitive 0x03 contents) → element ≡ public_key_info info → ⊥
no_bits element algorithm key info is none e =
    let stands = bits_stand info.subject_public_key in
    none (stands.0 ∷ key_payload info.subject_public_key) (key_of element algorithm key info is e ∙ stands.1)

pub bits_are : (key : SubjectKey) → bits_of (Some (subject_public_key key)) ≡ Some (key_payload key)
bits_are (keys.Rsa key) = refl
bits_are (keys.Ec bits) = refl
bits_are (keys.Ed bits) = refl
bits_are (keys.Mldsa bits) = refl
