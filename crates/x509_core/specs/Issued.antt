-- Certificates that were issued by a history, and when no others are accepted under their keys.
use Rattle.std.specs.Prelude.{◌≡◌, ◌↔◌, ◌⊎◌, ⊤, ℕ, List, [], ◌∷◌, length, Some, None}
use Rattle.std.specs.List.{slice_get}
use Rattle.asn1_types.specs.declared.generalized_time.GeneralizedTime.{GeneralizedTime}
use Rattle.der_core.specs.Encoding.{encoding}
use Rattle.key_core.specs.Verifying.{Judge, Accepts}
use Rattle.key_core.specs.declared.signature_algorithm.SignatureAlgorithm.{SignatureAlgorithm}
use Rattle.key_types.specs.declared.key_info.SubjectPublicKeyInfo.{SubjectPublicKeyInfo}
use Rattle.x509_types.specs.CertificateElements.{CertificateElements}
use Rattle.x509_types.specs.ExtensionParts.{HasCa, HasPathLength, HasSubjectKey, HasAuthorityKey}
use Rattle.x509_types.specs.FirstOfValue.{extensions_in}
use Rattle.x509_types.specs.TbsCertificate.{AreTbsFields}
use Rattle.x509_types.specs.TbsElements.{TbsElements, tbs_of}
use Rattle.x509_types.specs.declared.certificate.tbs_certificate.TbsCertificate.{TbsCertificate}
use Rattle.x509_core.specs.CertType.{IsSelfIssued}
use Rattle.x509_core.specs.Distinct.{AreDistinct}
use Rattle.x509_core.specs.History.{IssuingStep, History, HasStep, HasIssuer, IsRootStep, IsOrdered, IsValidAt}
use Rattle.x509_core.specs.OwnedCertificate.{KeptCertificate}
use Rattle.x509_core.specs.Link.{HasKey, IsSignedBy, signed_octets}
use Rattle.x509_core.specs.Parent.{AgreeByName}
use Rattle.x509_core.specs.Window.{IsNotBefore, IsNotAfter}

-- the certificate at an index, counted from 0
abbrev pub HasCert : List KeptCertificate → ℕ → KeptCertificate → Type 0
HasCert certificates index cert = slice_get certificates index ≡ Some cert

-- each is the certificate at its index, and there are as many
abbrev pub AreCertsAt : List KeptCertificate → List ℕ → List KeptCertificate → Type 0
AreCertsAt certificates [] [] = ⊤
AreCertsAt certificates [] (cert ∷ certs) = ⊥
AreCertsAt certificates (index ∷ indices) [] = ⊥
AreCertsAt certificates (index ∷ indices) (cert ∷ certs) =
    HasCert certificates index cert × AreCertsAt certificates indices certs

-- The certificate has the CA flag, present also if it is FALSE, the path length and the validity of
-- the step, a subject key identifier, and no two extensions with one OID (RFC 5280 4.2).
pub record IsRecordedAs (step : IssuingStep) (cert : KeptCertificate) : Type 0 where
  pub flag : HasCa cert.elements step.ca
  pub length : (number : ℕ) → HasPathLength cert.elements number ↔ (step.pathlen ≡ Some number)
  pub begins : IsNotBefore cert.elements step.not_before
  pub ends : IsNotAfter cert.elements step.not_after
  pub key : List ℕ
  pub identified : HasSubjectKey cert.elements key
  pub distinct : AreDistinct (extensions_in cert.certificate.tbs_certificate.extensions)

-- The issuer of the child is the subject of the parent, its authority key identifier is the subject
-- key identifier of the parent, and its signature is one by the parent's key.
pub record IsCertifiedBy (judge : Judge) (parent child : CertificateElements) : Type 0 where
  pub name : AgreeByName parent child
  pub key : List ℕ
  pub named : HasAuthorityKey child key
  pub had : HasSubjectKey parent key
  pub signed : IsSignedBy judge parent child

-- The certificates were issued by the history: one a step, as recorded, self-issued if the step is
-- a root, else issued by the certificate of the issuer.
pub record IsIssued (judge : Judge) (history : History)
    (certificates : List KeptCertificate) : Type 0 where
  pub ordered : IsOrdered history
  pub all : length certificates ≡ length history
  pub recorded : (index : ℕ) (step : IssuingStep) (cert : KeptCertificate)
      → HasStep history index step → HasCert certificates index cert → IsRecordedAs step cert
  pub roots : (index : ℕ) (cert : KeptCertificate)
      → IsRootStep history index → HasCert certificates index cert → IsSelfIssued cert.elements
  pub issued : (index issuer : ℕ) (parent child : KeptCertificate)
      → HasIssuer history index issuer → HasCert certificates issuer parent
      → HasCert certificates index child → IsCertifiedBy judge parent.elements child.elements

-- The certificate is the next one of the history, after these: as recorded, self-issued if its step
-- is a root, else issued by the one of these at the index of its issuer.
pub record IsNext (judge : Judge) (certificates : List KeptCertificate) (step : IssuingStep)
    (cert : KeptCertificate) : Type 0 where
  pub recorded : IsRecordedAs step cert
  pub root : step.issuer ≡ None → IsSelfIssued cert.elements
  pub issued : (issuer : ℕ) → step.issuer ≡ Some issuer
      → (parent : KeptCertificate) × HasCert certificates issuer parent
      × IsCertifiedBy judge parent.elements cert.elements

-- ---- no others are accepted

-- the step at an index is issued by the one at another, or both are one root
abbrev pub IsSignedUnder : History → (index signer : ℕ) → Type 0
IsSignedUnder history index signer =
    HasIssuer history index signer ⊎ (IsRootStep history index × (index ≡ signer))

-- The octets are what is signed of a certificate at some index, by the key of the one at the
-- signer's.
pub record IsOneOf (history : History) (certificates : List KeptCertificate) (signer : ℕ)
    (octets : List ℕ) : Type 0 where
  pub index : ℕ
  pub under : IsSignedUnder history index signer
  pub cert : KeptCertificate
  pub is : HasCert certificates index cert
  pub signs : octets ≡ signed_octets cert.elements

-- Under the key of each certificate the scheme accepts, of all encodings of a TBSCertificate, those
-- of the certificates issued by it alone, and a root's own. So certificates with one key have issued the
-- same ones, if any. Other octets, such as requests, may be accepted.
abbrev pub IsSealed : Judge → History → List KeptCertificate → Type 0
IsSealed judge history certificates =
    (signer : ℕ) (parent : KeptCertificate) (info : SubjectPublicKeyInfo)
    (algorithm : SignatureAlgorithm) (tbs : TbsElements) (signature : List ℕ)
    → HasCert certificates signer parent → HasKey parent.elements info
    → ∥ ((value : TbsCertificate) × AreTbsFields tbs value) ∥₁
    → Accepts judge algorithm info (encoding (tbs_of tbs)) signature
    → IsOneOf history certificates signer (encoding (tbs_of tbs))

-- What is signed of the certificate is what is signed of one that was issued, and that one is valid
-- at the date, by the history.
pub record IsOfValid (history : History) (certificates : List KeptCertificate)
    (date : GeneralizedTime) (checked : KeptCertificate) : Type 0 where
  pub index : ℕ
  pub cert : KeptCertificate
  pub is : HasCert certificates index cert
  pub signs : signed_octets checked.elements ≡ signed_octets cert.elements
  pub valid : IsValidAt history index date
