-- The builder of a certificate, as a register sets it for a grant.
use Rattle.std.specs.Prelude.{◌≡◌, ℕ, Bool, true, false, List, Some, None}
use Rattle.der_core.specs.Encoding.{encoding}
use Rattle.key_core.specs.declared.key_id.KeyIdGenMethod.TheVariants.{SPKFullDER}
use Rattle.key_core.specs.declared.private_key.PrivateKey.{PrivateKey}
use Rattle.key_core.specs.declared.signature_algorithm.SignatureAlgorithm.TheVariants.{RsaPkcs1v15}
use Rattle.names_core.specs.Names.{sets_of}
use Rattle.names_core.specs.declared.name.DirectoryName.{DirectoryName}
use Rattle.sig_core.specs.declared.hash.HashAlgorithm.TheVariants.{SHA2_256}
use Rattle.x509_types.specs.FirstOfValue.{extensions_in}
use Rattle.x509_core.specs.OwnedCertificate.{KeptCertificate}
use Rattle.x509_issuing.specs.IssuedUnder.{IsIdentifiedBy}
use Rattle.x509_issuing.specs.OwnedRequest.{KeptRequest, kept_request}
use Rattle.x509_issuing.specs.declared.builder.CertificateBuilder.{CertificateBuilder}
use Rattle.x509_issuing.specs.declared.builder.IssuerInfos.{IssuerInfos}
use Rattle.x509_issuing.specs.declared.builder.SubjectInfos.{SubjectInfos}
use Rattle.x509_issuing.specs.declared.builder.SubjectInfos.TheVariants as subjects
use Rattle.ca_register.specs.declared.entry.Grant.{Grant}

-- The builder has the validity, the CA flag and the path length of the grant, signs with RSA and
-- SHA-256, generates key identifiers as the SHA-256 of the SubjectPublicKeyInfo, and sets no other
-- extension.
pub record IsGranted (grant : Grant) (b : CertificateBuilder) : Type 0 where
  pub begins : b.valid_from ≡ Some grant.from
  pub ends : b.valid_to ≡ Some grant.to
  pub ca : b.ca ≡ grant.ca
  pub path_length : b.pathlen ≡ grant.path_length
  pub serial_number : b.serial_number ≡ None
  pub algorithm : b.signature_hash_type ≡ RsaPkcs1v15 SHA2_256
  pub method : b.key_id_gen_method ≡ SPKFullDER SHA2_256
  pub key_usage : b.key_usage ≡ None
  pub extended_key_usage : b.extended_key_usage ≡ None
  pub subject_alt_name : b.subject_alt_name ≡ None
  pub issuer_alt_name : b.issuer_alt_name ≡ None

-- The builder of a root with this name and this key.
pub record IsRootBuilder (grant : Grant) (name : DirectoryName) (key : PrivateKey)
    (b : CertificateBuilder) : Type 0 where
  pub granted : IsGranted grant b
  pub issuer : IssuerInfos
  pub given : b.issuer_infos ≡ Some issuer
  pub named : issuer.name ≡ name
  pub keyed : issuer.key.now ≡ key
  pub own : issuer.self_signed ≡ true

-- The builder has the grant and this subject, whose extensions are inherited or not.
pub record IsFor (grant : Grant) (subject : SubjectInfos) (inherits : Bool)
    (b : CertificateBuilder) : Type 0 where
  pub granted : IsGranted grant b
  pub given : b.subject_infos ≡ Some subject
  pub inherited : b.inherits ≡ inherits

-- The builder of a certificate for this subject under the certificate of its issuer, signed by this
-- key: the issuer's name is the subject of that certificate, and the authority key identifier its
-- subject key identifier (RFC 5280 4.2.1.1).
pub record IsChildBuilder (grant : Grant) (subject : SubjectInfos) (inherits : Bool)
    (key : PrivateKey) (parent : KeptCertificate) (b : CertificateBuilder) : Type 0 where
  pub for : IsFor grant subject inherits b
  pub issuer : IssuerInfos
  pub given : b.issuer_infos ≡ Some issuer
  pub named : sets_of issuer.name ≡ parent.certificate.tbs_certificate.subject
  pub keyed : issuer.key.now ≡ key
  pub other : issuer.self_signed ≡ false
  pub identified : IsIdentifiedBy (extensions_in parent.certificate.tbs_certificate.extensions) None
      b.authority_key_identifier

-- The same for the subject of the request with these octets, whose extensions are inherited.
pub record IsEnrolBuilder (grant : Grant) (octets : List ℕ) (key : PrivateKey)
    (parent : KeptCertificate) (b : CertificateBuilder) : Type 0 where
  pub csr : KeptRequest
  pub is : encoding (kept_request csr) ≡ octets
  pub child : IsChildBuilder grant (subjects.Request csr) true key parent b
