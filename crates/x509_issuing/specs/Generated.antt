-- A generated request, and why there is none (RFC 2986 4).
use Rattle.std.specs.Prelude.{◌≡◌, ◌⊎◌, List, Some, true}
use Rattle.der_core.specs.Encoding.{encoding, IsDer}
use Rattle.der_core.specs.Borrowed.{AreDer}
use Rattle.der_core.specs.Refusals.{RefusesInner}
use Rattle.asn1_types.specs.Values.{payload_of, unused_of}
use Rattle.key_types.specs.declared.key_info.SubjectPublicKeyInfo.{SubjectPublicKeyInfo}
use Rattle.key_core.specs.Keys.{container_of, point_beside}
use Rattle.key_core.specs.PublicHalf.{IsPublicHalf, RefusesPublicHalf}
use Rattle.key_core.specs.SignatureAlgorithm.{IsWrittenAlgorithm, IsUnwritable}
use Rattle.key_core.specs.SignatureRules.{RefusesSignatureBy}
use Rattle.key_core.specs.Signing.{Signs, Pair, KeyArithmetic, IsAsked, IsKeyPair, sign_rules}
use Rattle.key_core.specs.Verifying.{Judge, Accepts}
use Rattle.key_core.specs.declared.element.Element.TheVariants as elements
use Rattle.key_core.specs.declared.private_key.PrivateKey.{PrivateKey}
use Rattle.key_core.specs.declared.signature_algorithm.SignatureAlgorithm.{SignatureAlgorithm}
use Rattle.names_core.specs.Names.{sets_of}
use Rattle.names_core.specs.declared.name.DirectoryName.{DirectoryName}
use Rattle.x509_types.specs.declared.attribute.Attribute.{Attribute}
use Rattle.x509_issuing.specs.RequestInfo.{request_info, inner_request}
use Rattle.x509_issuing.specs.CertificationRequest.{request}
use Rattle.x509_issuing.specs.declared.request.CertificationRequest.{CertificationRequest}
use Rattle.x509_issuing.specs.declared.request_info.CertificationRequestInfo.{CertificationRequestInfo}
use Rattle.x509_core.specs.declared.csr_error.CsrError.{CsrError}
use Rattle.x509_issuing.specs.CsrRefusals.{IsUnwrittenCsr, IsUnsigned, IsKeyless}
use Rattle.x509_issuing.specs.OwnedRequest.{KeptRequest, kept_request, info_elements, request_elements}

-- The CertificationRequestInfo: this name, the public key of this private key, these attributes, a
-- field that is present even if empty.
pub record IsInfoFor (subject : DirectoryName) (key : PrivateKey) (attributes : List Attribute)
    (info : CertificationRequestInfo) : Type 0 where
  pub named : info.subject ≡ sets_of subject
  pub half : IsPublicHalf (container_of key).private_key (container_of key).private_key_algorithm
      (point_beside key) info.subject_public_key_info
  pub given : info.attributes ≡ Some attributes

-- The scheme signs the CertificationRequestInfo with the private key.
abbrev pub IsInfoSigned : Signs → PrivateKey → SignatureAlgorithm → CertificationRequestInfo
    → Type 0
IsInfoSigned signs key algorithm info =
    IsAsked signs algorithm key (encoding (request_info info)) true

-- The request is what is written for this CertificationRequestInfo, this algorithm, and a signature
-- without unused bits.
pub record IsRequestFor (algorithm : SignatureAlgorithm) (info : CertificationRequestInfo)
    (csr : KeptRequest) : Type 0 where
  pub info_is : csr.request.certification_request_info ≡ info
  pub algorithm_is : IsWrittenAlgorithm algorithm csr.request.signature_algorithm
  pub unused : unused_of csr.request.signature ≡ 0
  pub written : kept_request csr ≡ request csr.request

-- The request is made of the CertificationRequestInfo, which the scheme signs.
pub record IsGenerated (signs : Signs) (subject : DirectoryName) (key : PrivateKey)
    (algorithm : SignatureAlgorithm) (attributes : List Attribute)
    (csr : KeptRequest) : Type 0 where
  pub info : CertificationRequestInfo
  pub asked : IsInfoFor subject key attributes info
  pub signed : IsInfoSigned signs key algorithm info
  pub made : IsRequestFor algorithm info csr

-- ---- why none is generated

-- the private key has no public one
abbrev pub HasNoHalf : PrivateKey → CsrError → Type 0
HasNoHalf key = IsKeyless (RefusesPublicHalf (container_of key).private_key (point_beside key))

-- The request has this CertificationRequestInfo, this algorithm, and a signature without unused
-- bits, which is accepted under each public key of the pair.
pub record IsSignedWhole (judge : Judge) (pair : Pair) (key : PrivateKey)
    (algorithm : SignatureAlgorithm) (info : CertificationRequestInfo)
    (r : CertificationRequest) : Type 0 where
  pub info_is : r.certification_request_info ≡ info
  pub algorithm_is : IsWrittenAlgorithm algorithm r.signature_algorithm
  pub unused : unused_of r.signature ≡ 0
  pub accepted : (public : SubjectPublicKeyInfo) → IsKeyPair pair key public
      → Accepts judge algorithm public (encoding (request_info info)) (payload_of r.signature)

-- the request has no encoding
abbrev pub WholeUnwritten : Judge → Pair → PrivateKey → SignatureAlgorithm
    → CertificationRequestInfo → CsrError → Type 0
WholeUnwritten judge pair key algorithm info e =
    (r : CertificationRequest) × IsSignedWhole judge pair key algorithm info r
    × IsUnwrittenCsr elements.Request (RefusesInner (request_elements r)) e

-- the CertificationRequestInfo has no encoding
abbrev pub InfoUnwritten : CertificationRequestInfo → CsrError → Type 0
InfoUnwritten info = IsUnwrittenCsr elements.RequestInfo (RefusesInner (info_elements info))

-- it has one
abbrev pub IsInfoWritten : CertificationRequestInfo → Type 0
IsInfoWritten info = IsDer (request_info info) × AreDer (inner_request info)

-- the private key doesn't sign it
abbrev pub InfoUnsigned : Signs → PrivateKey → SignatureAlgorithm → CertificationRequestInfo
    → CsrError → Type 0
InfoUnsigned signs key algorithm info =
    IsUnsigned (RefusesSignatureBy (sign_rules signs algorithm key (encoding (request_info info))))

-- The first step that fails is reported: writing the CertificationRequestInfo, signing it, naming
-- the algorithm, writing the request.
abbrev pub RefusesToMake : KeyArithmetic → PrivateKey → SignatureAlgorithm
    → CertificationRequestInfo → CsrError → Type 0
RefusesToMake scheme key algorithm info e =
    InfoUnwritten info e
    ⊎ (IsInfoWritten info
    × (InfoUnsigned scheme.signs key algorithm info e
    ⊎ (IsInfoSigned scheme.signs key algorithm info
    × (IsUnsigned (IsUnwritable algorithm) e
    ⊎ WholeUnwritten scheme.judge scheme.pair key algorithm info e))))

-- There is no public key, or a later step fails.
abbrev pub RefusesToGenerate : KeyArithmetic → DirectoryName → PrivateKey → SignatureAlgorithm
    → List Attribute → CsrError → Type 0
RefusesToGenerate scheme subject key algorithm attributes e =
    HasNoHalf key e
    ⊎ ((info : CertificationRequestInfo) × IsInfoFor subject key attributes info
    × RefusesToMake scheme key algorithm info e)
