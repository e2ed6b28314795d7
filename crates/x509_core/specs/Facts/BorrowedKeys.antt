-- The octets of an RSA key in a certificate are the encoding of its RSAPublicKey.
use Rattle.std.specs.Prelude.{ℕ, List, Option, Some}
use Rattle.std.proofs.Common.{◌≡◌, sym, ap, subst, ◌∙◌}
use Rattle.der_core.specs.DerElement.{DerElement}
use Rattle.der_core.specs.Encoding.{encoding}
use Rattle.der_core.specs.Borrowed.{AreDer}
use Rattle.key_types.specs.PublicKeyInfo.{subject_public_key, inner_key}
use Rattle.key_types.specs.RsaPublicKey.{rsa_public_key}
use Rattle.key_types.specs.declared.key_info.SubjectPublicKeyInfo.{SubjectPublicKeyInfo}
use Rattle.key_types.specs.declared.public_key.RsaPublicKey.{RsaPublicKey}
use Rattle.key_types.specs.declared.subject_key.SubjectKey.{SubjectKey}
use Rattle.key_types.specs.declared.subject_key.SubjectKey.TheVariants as keys
use Rattle.key_core.specs.Pkcs1.{IsPkcs1Of}
use Rattle.x509_types.specs.CertificateElements.{CertificateElements}
use Rattle.x509_types.specs.CertificateFields.{kid, bits_of, key_octets_of}
use Rattle.x509_core.specs.Link.{HasKey}

same_some : (a b : List ℕ) → ◌≡◌ {A = Option (List ℕ)} (Some a) (Some b) → a ≡ b
same_some a b e = cc

rsa_bits : (f : CertificateElements) (info : SubjectPublicKeyInfo) (key : RsaPublicKey) (octets : List ℕ) → HasKey f info
    → info.subject_public_key ≡ keys.Rsa key → key_octets_of f ≡ Some octets → octets ≡ encoding (rsa_public_key key)
rsa_bits f info key octets has rsa lent =
    same_some octets (encoding (rsa_public_key key)) (sym lent ∙ ap (λ (e : DerElement). bits_of (kid 1 e)) has
    ∙ ap (λ (k : SubjectKey). bits_of (Some (subject_public_key k))) rsa)

pub lent_key : (f : CertificateElements) (info : SubjectPublicKeyInfo) (octets : List ℕ) → HasKey f info → AreDer (inner_key info.subject_public_key)
    → key_octets_of f ≡ Some octets
    → (key : RsaPublicKey) → info.subject_public_key ≡ keys.Rsa key → IsPkcs1Of (keys.Rsa key) octets
lent_key f info octets has inner lent = λ key rsa.
    let in_bounds : AreDer (inner_key (keys.Rsa key)) = subst (λ (k : SubjectKey). AreDer (inner_key k)) rsa inner in
    (rsa_bits f info key octets has rsa lent, in_bounds.0)
