-- When a certificate may have issued another, as a link of a chain (RFC 5280 6.1.3, 6.1.4,
-- 4.2.1.9).
use Rattle.std.specs.Prelude.{◌≡◌, ◌≢◌, ◌<◌, ◌≤◌, min, ℕ, List, [], ◌∷◌, true}
use Rattle.der_core.specs.Encoding.{encoding}
use Rattle.der_core.specs.Rules.{Rule, IsFirstBroken}
use Rattle.key_types.specs.AlgorithmIdentifier.{algorithm_identifier, oid_of}
use Rattle.key_types.specs.PublicKeyInfo.{public_key_info}
use Rattle.key_types.specs.declared.algorithm.AlgorithmIdentifier.{AlgorithmIdentifier}
use Rattle.key_types.specs.declared.key_info.SubjectPublicKeyInfo.{SubjectPublicKeyInfo}
use Rattle.key_core.specs.SignatureAlgorithm.{NamesSignature}
use Rattle.key_core.specs.Verifying.{Judge, Accepts, verify_rules}
use Rattle.key_core.specs.declared.signature_algorithm.SignatureAlgorithm.{SignatureAlgorithm}
use Rattle.key_core.specs.declared.signature_error.SignatureError.{SignatureError}
use Rattle.key_core.specs.declared.signature_error.SignatureError.TheVariants as signature_errors
use Rattle.key_core.specs.declared.signature_error.Unsupported.TheVariants as unsupported
use Rattle.names_core.specs.declared.name.DirectoryName.{DirectoryName}
use Rattle.x509_types.specs.CertificateElements.{CertificateElements}
use Rattle.x509_types.specs.ExtensionParts.{HasCa, HasPathLength}
use Rattle.x509_types.specs.TbsElements.{tbs_of}
use Rattle.x509_core.specs.OwnedCertificate.{KeptCertificate}
use Rattle.x509_core.specs.Parent.{AgreeByKeyAndName, IsNameOf, RefusesParent}
use Rattle.x509_core.specs.Window.{IsWithinWindow, window_rules}
use Rattle.x509_core.specs.declared.error.CaChainError.TheVariants as chain
use Rattle.x509_core.specs.declared.error.CertCause.{CertCause}
use Rattle.x509_core.specs.declared.error.CertCause.TheVariants as causes
use Rattle.x509_core.specs.declared.error.CertError.{CertError}
use Rattle.x509_core.specs.declared.error.CertError.TheVariants as errors
use Rattle.x509_core.specs.declared.window.Window.{Window}

-- the signature algorithm outside the TBSCertificate (RFC 5280 4.1.1.2)
abbrev pub HasAlgorithm : CertificateElements → AlgorithmIdentifier → Type 0
HasAlgorithm f id = f.algorithm ≡ algorithm_identifier id

-- the subject's key (RFC 5280 4.1.2.7)
abbrev pub HasKey : CertificateElements → SubjectPublicKeyInfo → Type 0
HasKey f info = f.tbs.subject_public_key_info ≡ public_key_info info

-- The child is signed with this algorithm, and the parent has this key.
pub record IsSignedWith (parent child : CertificateElements) (algorithm : SignatureAlgorithm)
    (info : SubjectPublicKeyInfo) : Type 0 where
  pub id : AlgorithmIdentifier
  pub beside : HasAlgorithm child id
  pub named : NamesSignature id algorithm
  pub key : HasKey parent info

-- what is signed: the raw octets of the TBSCertificate (RFC 5280 4.1.1.3)
abbrev pub signed_octets : CertificateElements → List ℕ
signed_octets f = encoding (tbs_of f.tbs)

-- The signature of the child is one by the parent's key (RFC 5280 6.1.3 (a) (1)).
pub record IsSignedBy (judge : Judge) (parent child : CertificateElements) : Type 0 where
  pub algorithm : SignatureAlgorithm
  pub info : SubjectPublicKeyInfo
  pub parts : IsSignedWith parent child algorithm info
  pub accepted : Accepts judge algorithm info (signed_octets child) child.signature

-- no more than its path length are between it and the end of the path, self-issued ones included
-- (RFC 5280 4.2.1.9)
abbrev pub IsDeepEnough : ℕ → CertificateElements → Type 0
IsDeepEnough number parent = (limit : ℕ) → HasPathLength parent limit → number ≤ limit

-- A number represents a count: both are the same, or past every path length.
abbrev pub IsCountFor : ℕ → ℕ → Type 0
IsCountFor number count = min number 256 ≡ min count 256

-- The parent may have issued the child, with this number of certificates between the parent and the
-- end of the path.
pub record IsLink (judge : Judge) (w : Window) (number : ℕ)
    (parent child : CertificateElements) : Type 0 where
  pub authority : HasCa parent true
  pub depth : IsDeepEnough number parent
  pub valid : IsWithinWindow w parent
  pub agreed : AgreeByKeyAndName parent child
  pub signed : IsSignedBy judge parent child

-- ---- rules, by what breaks them

-- the error reports this certificate, by the name of its subject, for a cause that breaks the rule
pub record IsReportedOf (kept : KeptCertificate) (rule : Rule CertCause) (e : CertError) : Type 0 where
  pub cause : CertCause
  pub id : DirectoryName
  pub broken : rule cause
  pub name : IsNameOf kept id
  pub returned : e ≡ errors.InvalidCertificate id cause

-- the parent has no CA flag that is true
pub record IsNoAuthority (parent : KeptCertificate) (e : CertError) : Type 0 where
  pub id : DirectoryName
  pub none : HasCa parent.elements true → ⊥
  pub name : IsNameOf parent id
  pub returned : e ≡ errors.InvalidChain (chain.IssuerIsNotCA id)

-- more are between the parent and the end of the path than its path length allows
pub record IsTooDeep (number : ℕ) (parent : KeptCertificate) (e : CertError) : Type 0 where
  pub id : DirectoryName
  pub limit : ℕ
  pub limited : HasPathLength parent.elements limit
  pub deeper : limit < number
  pub name : IsNameOf parent id
  pub returned : e ≡ errors.InvalidChain (chain.TooDeep id limit)

-- the certificate isn't valid
abbrev pub IsOutside : Window → KeptCertificate → Rule CertError
IsOutside w kept = IsReportedOf kept (IsFirstBroken (window_rules w kept.elements))

-- names or key identifiers don't agree
abbrev pub IsNoParent : (parent child : KeptCertificate) → Rule CertError
IsNoParent parent child e = RefusesParent parent child e × (e ≢ errors.Memory)

-- the signature algorithm outside the TBSCertificate isn't known
pub record IsUnsupported (child : KeptCertificate) (e : CertError) : Type 0 where
  pub id : AlgorithmIdentifier
  pub beside : HasAlgorithm child.elements id
  pub unnamed : (algorithm : SignatureAlgorithm) → NamesSignature id algorithm → ⊥
  pub returned : e ≡ errors.Signature
      (signature_errors.UnsupportedAlgorithm (unsupported.Oid (oid_of id)))

-- an error of a signature as one of a certificate: out of memory is reported as such
abbrev pub signature_refusal : SignatureError → CertError
signature_refusal signature_errors.Memory = errors.Memory
signature_refusal source = errors.Signature source

-- the signature is refused, and the error has the cause
pub record IsBadlySignedLink (judge : Judge) (parent child : CertificateElements)
    (cause : CertCause) : Type 0 where
  pub algorithm : SignatureAlgorithm
  pub info : SubjectPublicKeyInfo
  pub source : SignatureError
  pub parts : IsSignedWith parent child algorithm info
  pub refused : IsFirstBroken
      (verify_rules judge algorithm info (signed_octets child) child.signature) source
  pub returned : cause ≡ causes.Signature source

-- the rules of signatures, in their order
abbrev pub link_signature_rules : Judge → (parent child : KeptCertificate) → List (Rule CertError)
link_signature_rules judge parent child =
    IsUnsupported child ∷
    IsReportedOf child (IsBadlySignedLink judge parent.elements child.elements) ∷ []

-- The rules of a link, in their order.
abbrev pub link_rules : Judge → Window → ℕ → (parent child : KeptCertificate)
    → List (Rule CertError)
link_rules judge w number parent child =
    IsNoAuthority parent ∷ IsTooDeep number parent ∷ IsOutside w parent ∷ IsNoParent parent child ∷
    link_signature_rules judge parent child
