-- The algorithm and the key of a stored certificate, and the result for its signature.
use Rattle.std.proofs.Common.{◌≡◌, ℕ, List, Some, Result, Ok, Err, MatchResult, inl, inr, refl, sym, ap, subst, ◌∙◌}
use Rattle.std.proofs.Math.Logic.{∥∥₁_elim}
use Rattle.std.specs.Coded.{Coded-set}
use Rattle.der_core.specs.Borrowed.{AreDer}
use Rattle.der_core.specs.Facts.Codes.{coded_element}
use Rattle.der_core.specs.Facts.Borrowed.{AreDer-prop}
use Rattle.der_core.specs.Rules.{Rule, IsMet, IsFirstBroken}
use Rattle.key_types.specs.AlgorithmIdentifier.{algorithm_identifier}
use Rattle.key_types.specs.Facts.Algorithms.{algorithms}
use Rattle.key_types.specs.Facts.Keys.{infos_once}
use Rattle.key_types.specs.PublicKeyInfo.{public_key_info, inner_key}
use Rattle.key_types.specs.declared.algorithm.AlgorithmIdentifier.{AlgorithmIdentifier}
use Rattle.key_types.specs.declared.key_info.SubjectPublicKeyInfo.{SubjectPublicKeyInfo}
use Rattle.key_types.specs.declared.public_key.RsaPublicKey.{RsaPublicKey}
use Rattle.key_types.specs.declared.subject_key.SubjectKey.TheVariants as keys
use Rattle.key_core.specs.Pkcs1.{IsPkcs1Of}
use Rattle.key_core.specs.SignatureAlgorithm.{NamesSignature, IsUnnamed}
use Rattle.key_core.specs.SignatureRules.{RefusesSignatureBy}
use Rattle.key_core.specs.Verifying.{Judge, Accepts, verify_rules}
use Rattle.key_core.specs.declared.signature_algorithm.SignatureAlgorithm.{SignatureAlgorithm}
use Rattle.key_core.specs.declared.signature_error.SignatureError.{SignatureError}
use Rattle.key_core.specs.declared.signature_error.SignatureError.TheVariants as signature_errors
use Rattle.x509_types.specs.CertificateElements.{CertificateElements}
use Rattle.x509_types.specs.CertificateFields.{key_octets_of}
use Rattle.x509_core.specs.Facts.BorrowedKeys.{lent_key}
use Rattle.x509_core.specs.OwnedCertificate.{KeptCertificate}
use Rattle.x509_core.specs.Link.{HasAlgorithm, HasKey, IsSignedWith, IsSignedBy, IsBadlySignedLink, IsUnsupported}
use Rattle.x509_core.specs.Link.{IsReportedOf, signed_octets, signature_refusal, link_signature_rules}
use Rattle.x509_core.specs.Parent.{IsInvalid}
use Rattle.x509_core.specs.Rules.{Breaks, RefusesCertBy}
use Rattle.x509_core.specs.declared.error.CertCause.{CertCause}
use Rattle.x509_core.specs.declared.error.CertCause.TheVariants as causes
use Rattle.x509_core.specs.declared.error.CertError.{CertError}
use Rattle.x509_core.specs.declared.error.CertError.TheVariants as errors

pub algorithm_of : (kept : KeptCertificate) → HasAlgorithm kept.elements kept.certificate.signature_algorithm
algorithm_of kept =
    ∥∥₁_elim kept.spelled (Coded-set coded_element kept.elements.algorithm (algorithm_identifier kept.certificate.signature_algorithm)) (λ are. are.algorithm)

pub key_of : (kept : KeptCertificate) → HasKey kept.elements kept.certificate.tbs_certificate.subject_public_key_info
key_of kept =
    ∥∥₁_elim kept.spelled
    (Coded-set coded_element kept.elements.tbs.subject_public_key_info (public_key_info kept.certificate.tbs_certificate.subject_public_key_info))
    (λ are. are.tbs.subject_public_key_info.0)

pub one_algorithm : (f : CertificateElements) (a b : AlgorithmIdentifier) → HasAlgorithm f a → HasAlgorithm f b → a ≡ b
one_algorithm f a b p q = algorithms.once (algorithm_identifier a) a b refl (sym p ∙ q)

pub one_key : (f : CertificateElements) (a b : SubjectPublicKeyInfo) → HasKey f a → HasKey f b → a ≡ b
one_key f a b p q = infos_once a b (sym p ∙ q)

-- a certificate is reported for a cause, unless memory runs out
pub returned_of : (kept : KeptCertificate) (rule : Rule CertCause) (cause : CertCause) (e : CertError) → rule cause → IsInvalid kept cause e
    → Breaks (IsReportedOf kept rule) e
returned_of kept rule cause (errors.InvalidCertificate id source) broken is = inl (record {
  cause = cause;
  id = id;
  broken = broken;
  name = is.0;
  returned = ap (errors.InvalidCertificate id) is.1;
})
returned_of kept rule cause errors.Memory broken is = inr refl
returned_of kept rule cause e broken is = absurd is

-- ---- the key

in_bounds : (kept : KeptCertificate) → AreDer (inner_key kept.certificate.tbs_certificate.subject_public_key_info.subject_public_key)
in_bounds kept = ∥∥₁_elim kept.spelled (AreDer-prop (inner_key kept.certificate.tbs_certificate.subject_public_key_info.subject_public_key))
    (λ are. are.tbs.subject_public_key_info.1)

-- the borrowed octets of an RSA key are the encoding of its RSAPublicKey
pub kept_key : (kept : KeptCertificate) (f : CertificateElements) (info : SubjectPublicKeyInfo) (octets : List ℕ) → f ≡ kept.elements
    → info ≡ kept.certificate.tbs_certificate.subject_public_key_info
    → key_octets_of f ≡ Some octets → (key : RsaPublicKey) → info.subject_public_key ≡ keys.Rsa key → IsPkcs1Of (keys.Rsa key) octets
kept_key kept f info octets same own lent = λ key rsa.
    let kept_info = kept.certificate.tbs_certificate.subject_public_key_info in
    lent_key kept.elements kept_info octets (key_of kept) (in_bounds kept) (ap key_octets_of (sym same) ∙ lent) key
    (ap (λ (i : SubjectPublicKeyInfo). i.subject_public_key) (sym own) ∙ rsa)

-- ---- the algorithm

pub supported : (child : KeptCertificate) (algorithm : SignatureAlgorithm) → NamesSignature child.certificate.signature_algorithm algorithm
    → IsMet (IsUnsupported child)
supported child algorithm named = λ e broken.
    broken.unnamed algorithm (subst (λ (id : AlgorithmIdentifier). NamesSignature id algorithm)
    (one_algorithm child.elements child.certificate.signature_algorithm broken.id (algorithm_of child) broken.beside) named)

pub unsupported : (judge : Judge) (parent child : KeptCertificate) (source : SignatureError) (e : CertError)
    → IsUnnamed child.certificate.signature_algorithm source → e ≡ signature_refusal source
    → RefusesCertBy (link_signature_rules judge parent child) e
unsupported judge parent child source e (none, inl returned) is =
    inl (inl (record {
      id = child.certificate.signature_algorithm;
      beside = algorithm_of child;
      unnamed = none;
      returned = is ∙ ap signature_refusal returned;
    }))
unsupported judge parent child source e (none, inr memory) is = inr (is ∙ ap signature_refusal memory)

-- ---- the signature

pub signed_with : (parent child : KeptCertificate) (algorithm : SignatureAlgorithm) (info : SubjectPublicKeyInfo)
    → info ≡ parent.certificate.tbs_certificate.subject_public_key_info → NamesSignature child.certificate.signature_algorithm algorithm
    → IsSignedWith parent.elements child.elements algorithm info
signed_with parent child algorithm info key named = record {
  id = child.certificate.signature_algorithm;
  beside = algorithm_of child;
  named = named;
  key = key_of parent ∙ ap public_key_info (sym key);
}

pub signed_by : (judge : Judge) (parent child : KeptCertificate) (algorithm : SignatureAlgorithm) (info : SubjectPublicKeyInfo) (msg sig : List ℕ)
    → IsSignedWith parent.elements child.elements algorithm info → msg ≡ signed_octets child.elements → sig ≡ child.elements.signature
    → Accepts judge algorithm info msg sig → IsSignedBy judge parent.elements child.elements
signed_by judge parent child algorithm info msg sig parts message signature accepted = record {
  algorithm = algorithm;
  info = info;
  parts = parts;
  accepted = subst (λ (s : List ℕ). Accepts judge algorithm info (signed_octets child.elements) s) signature
      (subst (λ (m : List ℕ). Accepts judge algorithm info m sig) message accepted);
}

pub badly_signed : (judge : Judge) (parent child : KeptCertificate) (algorithm : SignatureAlgorithm) (info : SubjectPublicKeyInfo) (msg sig : List ℕ)
    (source : SignatureError) (e : CertError)
    → IsSignedWith parent.elements child.elements algorithm info → msg ≡ signed_octets child.elements → sig ≡ child.elements.signature
    → RefusesSignatureBy (verify_rules judge algorithm info msg sig) source → (source ≡ signature_errors.Memory → e ≡ errors.Memory)
    → IsInvalid child (causes.Signature source) e
    → Breaks (IsReportedOf child (IsBadlySignedLink judge parent.elements child.elements)) e
badly_signed judge parent child algorithm info msg sig source e parts message signature (inr none) memory returned = inr (memory none)
badly_signed judge parent child algorithm info msg sig source e parts message signature (inl broken) memory returned =
    returned_of child (IsBadlySignedLink judge parent.elements child.elements) (causes.Signature source) e (record {
      algorithm = algorithm;
      info = info;
      source = source;
      parts = parts;
      refused = subst (λ (s : List ℕ). IsFirstBroken (verify_rules judge algorithm info (signed_octets child.elements) s) source) signature
          (subst (λ (m : List ℕ). IsFirstBroken (verify_rules judge algorithm info m sig) source) message broken);
      returned = refl;
    }) returned

pub accepted_or_not : {X : Type 0} (judge : Judge) (parent child : KeptCertificate) (algorithm : SignatureAlgorithm) (r : Result X CertError)
    → NamesSignature child.certificate.signature_algorithm algorithm
    → MatchResult r (λ _. IsSignedBy judge parent.elements child.elements)
    (Breaks (IsReportedOf child (IsBadlySignedLink judge parent.elements child.elements)))
    → MatchResult r (λ _. IsSignedBy judge parent.elements child.elements) (RefusesCertBy (link_signature_rules judge parent child))
accepted_or_not judge parent child algorithm (Ok v) named signed = signed
accepted_or_not judge parent child algorithm (Err e) named (inl broken) = inl (inr (supported child algorithm named, inl broken))
accepted_or_not judge parent child algorithm (Err e) named (inr memory) = inr memory
