-- What is signed of a request, and by which key, step by step.
use Rattle.std.proofs.Common.{◌≡◌, ◌⊎◌, ℕ, List, Result, Ok, Err, IfOk, MatchResult, sym, ap, subst, ◌∙◌, inl, inr}
use Rattle.der_core.specs.DerElement.{DerElement}
use Rattle.der_core.specs.Encoding.{encoding}
use Rattle.der_core.specs.Refusals.{RefusesInner}
use Rattle.key_types.specs.declared.key_info.SubjectPublicKeyInfo.{SubjectPublicKeyInfo}
use Rattle.key_core.specs.SignatureAlgorithm.{IsWrittenAlgorithm, IsUnwritable}
use Rattle.key_core.specs.Signing.{Signs, Pair, IsKeyPair, arithmetic}
use Rattle.key_core.specs.Verifying.{Judge, Accepts}
use Rattle.key_core.specs.declared.element.Element.TheVariants as elements
use Rattle.key_core.specs.declared.private_key.PrivateKey.{PrivateKey}
use Rattle.key_core.specs.declared.signature_algorithm.SignatureAlgorithm.{SignatureAlgorithm}
use Rattle.names_core.specs.declared.name.DirectoryName.{DirectoryName}
use Rattle.x509_types.specs.declared.attribute.Attribute.{Attribute}
use Rattle.x509_issuing.specs.RequestInfo.{request_info}
use Rattle.x509_issuing.specs.CertificationRequest.{request}
use Rattle.x509_issuing.specs.declared.request.CertificationRequest.{CertificationRequest}
use Rattle.x509_issuing.specs.declared.request_info.CertificationRequestInfo.{CertificationRequestInfo}
use Rattle.x509_core.specs.declared.csr_error.CsrError.{CsrError}
use Rattle.x509_issuing.specs.CsrRefusals.{IsUnwrittenCsr, IsUnsigned}
use Rattle.x509_issuing.specs.Generated.{InfoUnsigned, InfoUnwritten, IsGenerated, IsInfoFor, IsInfoSigned}
use Rattle.x509_issuing.specs.Generated.{IsInfoWritten, IsRequestFor, IsSignedWhole, RefusesToGenerate, RefusesToMake}
use Rattle.x509_issuing.specs.OwnedRequest.{KeptRequest, kept_request, request_elements}
use Rattle.x509_issuing.specs.SelfSigned.{IsSelfSigned}
use Rattle.x509_issuing.specs.Facts.Csrs.{info_once}

pub not_signed : (judge : Judge) (signs : Signs) (pair : Pair) (key : PrivateKey) (algorithm : SignatureAlgorithm) (info : CertificationRequestInfo)
    (e : CsrError)
    → InfoUnwritten info e ⊎ (IsInfoWritten info × InfoUnsigned signs key algorithm info e) → RefusesToMake (arithmetic judge signs pair) key algorithm info e
not_signed judge signs pair key algorithm info e (inl unwritten) = inl unwritten
not_signed judge signs pair key algorithm info e (inr (written, unsigned)) = inr (written, inl unsigned)

-- the stored element of a written request contains the written CertificationRequestInfo
pub written_info : (csr : KeptRequest) (r : CertificationRequest) → kept_request csr ≡ request r → csr.info ≡ request_info r.certification_request_info
written_info csr r e = info_once csr.info (request_info r.certification_request_info) csr.request r e

pub made : (judge : Judge) (signs : Signs) (pair : Pair) (key : PrivateKey) (algorithm : SignatureAlgorithm) (r : CertificationRequest)
    (result : Result KeptRequest CsrError)
    → IsInfoWritten r.certification_request_info → IsInfoSigned signs key algorithm r.certification_request_info
    → IsSignedWhole judge pair key algorithm r.certification_request_info r
    → MatchResult result (λ csr. (kept_request csr ≡ request r) × (csr.request ≡ r)) (IsUnwrittenCsr elements.Request (RefusesInner (request_elements r)))
    → MatchResult result (λ csr. IsRequestFor algorithm r.certification_request_info csr × IsInfoSigned signs key algorithm r.certification_request_info)
    (RefusesToMake (arithmetic judge signs pair) key algorithm r.certification_request_info)
made judge signs pair key algorithm r (Ok csr) written signed whole (kept, value) = (
  record {
    info_is = ap (λ (x : CertificationRequest). x.certification_request_info) value;
    algorithm_is = subst (λ (x : CertificationRequest). IsWrittenAlgorithm algorithm x.signature_algorithm) (sym value) whole.algorithm_is;
    unused = ap (λ (x : CertificationRequest). x.signature.unused) value ∙ whole.unused;
    written = kept ∙ ap request (sym value);
  },
  signed,
)
made judge signs pair key algorithm r (Err e) written signed whole refused = inr (written, inr (signed, inr (r, whole, refused)))

-- a signature accepted over the written CertificationRequestInfo is accepted over the stored one
pub accepted : (judge : Judge) (pair : Pair) (private : PrivateKey) (algorithm : SignatureAlgorithm) (r : CertificationRequest)
    (result : Result KeptRequest CsrError) (Refused : CsrError → Type 0)
    → ((key : SubjectPublicKeyInfo) → IsKeyPair pair private key
    → Accepts judge algorithm key (encoding (request_info r.certification_request_info)) r.signature.payload)
    → MatchResult result (λ csr. (kept_request csr ≡ request r) × (csr.request ≡ r)) Refused
    → IfOk result (λ csr. (key : SubjectPublicKeyInfo) → IsKeyPair pair private key
    → Accepts judge algorithm key (encoding csr.info) csr.request.signature.payload)
accepted judge pair private algorithm r (Ok csr) Refused accepts (kept, value) = λ key paired.
    subst (λ (x : CertificationRequest). Accepts judge algorithm key (encoding csr.info) x.signature.payload) (sym value)
    (subst (λ (x : DerElement). Accepts judge algorithm key (encoding x) r.signature.payload) (sym (written_info csr r kept)) (accepts key paired))
accepted judge pair private algorithm r (Err e) Refused accepts is = tt

pub generated : (judge : Judge) (signs : Signs) (pair : Pair) (subject : DirectoryName) (key : PrivateKey) (algorithm : SignatureAlgorithm)
    (attributes : List Attribute) (info : CertificationRequestInfo) (result : Result KeptRequest CsrError)
    → IsInfoFor subject key attributes info
    → MatchResult result (λ csr. IsRequestFor algorithm info csr × IsInfoSigned signs key algorithm info)
    (RefusesToMake (arithmetic judge signs pair) key algorithm info)
    → MatchResult result (IsGenerated signs subject key algorithm attributes) (RefusesToGenerate (arithmetic judge signs pair) subject key algorithm attributes)
generated judge signs pair subject key algorithm attributes info (Ok csr) asked (is, signed) = record { info = info; asked = asked; signed = signed; made = is }
generated judge signs pair subject key algorithm attributes info (Err e) asked refused = inr (info, asked, refused)

-- a request that names the algorithm and is accepted under its own key is self-signed
pub self_signed : (signs : Signs) (judge : Judge) (pair : Pair) (private : PrivateKey) (algorithm : SignatureAlgorithm) (info : CertificationRequestInfo)
    (result : Result KeptRequest CsrError)
    → MatchResult result (λ csr. IsRequestFor algorithm info csr × IsInfoSigned signs private algorithm info)
    (RefusesToMake (arithmetic judge signs pair) private algorithm info)
    → IfOk result (λ csr. (key : SubjectPublicKeyInfo) → IsKeyPair pair private key
    → Accepts judge algorithm key (encoding csr.info) csr.request.signature.payload)
    → IfOk result (λ csr. IsKeyPair pair private csr.request.certification_request_info.subject_public_key_info → IsSelfSigned judge csr)
self_signed signs judge pair private algorithm info (Ok csr) (is, signed) accepts = λ paired. record {
  algorithm = algorithm;
  named = is.algorithm_is.identifier;
  accepted = accepts csr.request.certification_request_info.subject_public_key_info paired;
}
self_signed signs judge pair private algorithm info (Err e) is accepts = tt

-- a signature is accepted over equal octets
pub accepted_of : (judge : Judge) (algorithm : SignatureAlgorithm) (key : SubjectPublicKeyInfo) (msg other sig payload : List ℕ) → msg ≡ other → payload ≡ sig
    → Accepts judge algorithm key msg sig → Accepts judge algorithm key other payload
accepted_of judge algorithm key msg other sig payload same bits accepts =
    subst (λ (m : List ℕ). Accepts judge algorithm key m payload) same (subst (λ (s : List ℕ). Accepts judge algorithm key msg s) (sym bits) accepts)
