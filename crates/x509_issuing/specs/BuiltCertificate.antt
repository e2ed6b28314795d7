-- The built certificate (RFC 5280 4.1), field by field.
use Rattle.std.specs.Prelude.{◌≡◌, ◌==◌, if◌then◌else◌, ℕ, Bool, true, false, List, Option, Some, None}
use Rattle.asn1_types.specs.Integer.{number_of, IsUnsignedInteger}
use Rattle.asn1_types.specs.Values.{integer_contents}
use Rattle.asn1_types.specs.declared.generalized_time.GeneralizedTime.{GeneralizedTime}
use Rattle.asn1_types.specs.declared.integer.IntegerAsn1.{IntegerAsn1}
use Rattle.asn1_types.specs.declared.oids.TheConstants.{CE_SUBJECT_KEY_IDENTIFIER}
use Rattle.key_types.specs.declared.algorithm.AlgorithmIdentifier.{AlgorithmIdentifier}
use Rattle.key_types.specs.declared.key_info.SubjectPublicKeyInfo.{SubjectPublicKeyInfo}
use Rattle.key_core.specs.KeyIdentifier.{IsKeyIdentifier}
use Rattle.key_core.specs.Keys.{container_of, info_of, point_beside}
use Rattle.key_core.specs.PublicHalf.{IsPublicHalf}
use Rattle.key_core.specs.SignatureAlgorithm.{IsWrittenAlgorithm}
use Rattle.key_core.specs.Verifying.{Judge}
use Rattle.key_core.specs.declared.private_key.PrivateKey.{PrivateKey}
use Rattle.name_types.specs.declared.attribute.AttributeTypeAndValue.{AttributeTypeAndValue}
use Rattle.names_core.specs.Names.{sets_of}
use Rattle.names_core.specs.UtcDate.{IsTimeOf}
use Rattle.x509_types.specs.FirstOfValue.{extensions_in}
use Rattle.x509_types.specs.declared.certificate.tbs_certificate.TbsCertificate.{TbsCertificate}
use Rattle.x509_types.specs.declared.certificate.version.Version.TheVariants as versions
use Rattle.x509_types.specs.declared.extension.Extension.{Extension}
use Rattle.x509_types.specs.declared.extension.view.ExtensionView.TheVariants as views
use Rattle.x509_types.specs.declared.certificate.validity.Validity.{Validity}
use Rattle.x509_core.specs.FirstValue.{HasFirst}
use Rattle.x509_core.specs.SaidValues.{NamesKey}
use Rattle.x509_issuing.specs.MadeExtensions.{AreBuilt}
use Rattle.x509_issuing.specs.SelfSigned.{IsSelfSigned}
use Rattle.x509_issuing.specs.declared.builder.CertificateBuilder.{CertificateBuilder}
use Rattle.x509_issuing.specs.declared.builder.IssuerInfos.{IssuerInfos}
use Rattle.x509_issuing.specs.declared.builder.SubjectInfos.{SubjectInfos}
use Rattle.x509_issuing.specs.declared.builder.SubjectInfos.TheVariants as subjects

-- the number in the octets, or if none are given the random word, 1 for 0 (RFC 5280 4.1.2.2)
abbrev pub serial_of : Option (List ℕ) → ℕ → ℕ
serial_of None word = if word == 0 then 1 else word
serial_of (Some octets) word = number_of octets

-- the public key is that of this private key
abbrev pub IsHalfOf : PrivateKey → SubjectPublicKeyInfo → Type 0
IsHalfOf key =
    IsPublicHalf (container_of key).private_key (container_of key).private_key_algorithm
    (point_beside key)

-- a name, by its sets of attributes
abbrev pub NameSets : Type 0
NameSets = List (List AttributeTypeAndValue)

-- The name and the key are those of the given subject. A request must be signed by its own key.
abbrev pub IsGivenSubject : Judge → Option SubjectInfos → NameSets → SubjectPublicKeyInfo → Type 0
IsGivenSubject judge None name key = ⊥
IsGivenSubject judge (Some (subjects.Named given own)) name key =
    (name ≡ sets_of given) × (key ≡ info_of own)
IsGivenSubject judge (Some (subjects.Request csr)) name key =
    IsSelfSigned judge csr × (name ≡ csr.request.certification_request_info.subject)
    × (key ≡ csr.request.certification_request_info.subject_public_key_info)

-- The name and the key are those of the subject: of the issuer if the certificate is self-signed,
-- else the given ones, and the authority key identifier is given.
abbrev pub IsSubjectBy : Judge → (self_signed : Bool) → IssuerInfos → Option (List ℕ)
    → Option SubjectInfos → NameSets → SubjectPublicKeyInfo → Type 0
IsSubjectBy judge true issuer authority given name key =
    (name ≡ sets_of issuer.name) × IsHalfOf issuer.key.now key
IsSubjectBy judge false issuer None given name key = ⊥
IsSubjectBy judge false issuer (Some authority) given name key = IsGivenSubject judge given name key

-- The name and the key are those of the builder's subject.
abbrev pub IsSubject : Judge → CertificateBuilder → IssuerInfos → NameSets → SubjectPublicKeyInfo
    → Type 0
IsSubject judge b issuer =
    IsSubjectBy judge issuer.self_signed issuer b.authority_key_identifier b.subject_infos

-- the authority key identifier: the given one, or the subject's if the certificate is self-signed
-- (RFC 5280 4.2.1.1)
abbrev pub authority_of : (self_signed : Bool) → Option (List ℕ) → (own : List ℕ) → List ℕ
authority_of true given own = own
authority_of false None own = own
authority_of false (Some authority) own = authority

-- The Times are those of both dates.
pub record IsValidityOf (from to : GeneralizedTime) (validity : Validity) : Type 0 where
  pub begins : IsTimeOf from validity.not_before
  pub ends : IsTimeOf to validity.not_after

-- The issuer's fields: the serial number, the algorithm, the issuer's name.
pub record IsBuiltBy (b : CertificateBuilder) (issuer : IssuerInfos) (word : ℕ)
    (serial_number : IntegerAsn1) (algorithm : AlgorithmIdentifier) (name : NameSets) : Type 0 where
  pub numbered : IsUnsignedInteger (serial_of b.serial_number word) (integer_contents serial_number)
  pub signs : IsWrittenAlgorithm b.signature_hash_type algorithm
  pub named : name ≡ sets_of issuer.name

-- The subject's fields: the name, the key, and its key identifier.
pub record IsBuiltFor (judge : Judge) (b : CertificateBuilder) (issuer : IssuerInfos) (own : List ℕ)
    (name : NameSets) (key : SubjectPublicKeyInfo) : Type 0 where
  pub subject : IsSubject judge b issuer name key
  pub identified : IsKeyIdentifier b.key_id_gen_method key own

-- The fields are the builder's, with these dates, this subject, this key and its key identifier.
pub record IsTbsBy (b : CertificateBuilder) (issuer : IssuerInfos) (word : ℕ) (own : List ℕ)
    (tbs : TbsCertificate) : Type 0 where
  pub version : tbs.version ≡ Some versions.V3
  pub issued_by : IsBuiltBy b issuer word tbs.serial_number tbs.signature tbs.issuer
  pub issuer_unique_id : tbs.issuer_unique_id ≡ None
  pub subject_unique_id : tbs.subject_unique_id ≡ None
  pub extensions : List Extension
  pub given : tbs.extensions ≡ Some extensions
  pub built : AreBuilt b issuer own (authority_of issuer.self_signed b.authority_key_identifier own)
      extensions

-- The TBSCertificate that the builder describes.
pub record IsTbsFor (judge : Judge) (b : CertificateBuilder) (issuer : IssuerInfos) (word : ℕ)
    (tbs : TbsCertificate) : Type 0 where
  pub from : GeneralizedTime
  pub to : GeneralizedTime
  pub valid_from : b.valid_from ≡ Some from
  pub valid_to : b.valid_to ≡ Some to
  pub validity : IsValidityOf from to tbs.validity
  pub own : List ℕ
  pub issued_to : IsBuiltFor judge b issuer own tbs.subject tbs.subject_public_key_info
  pub by : IsTbsBy b issuer word own tbs

-- The first key identifiers (RFC 5280 4.2.1.1, 4.2.1.2): the subject's, by the method of the
-- builder, and the authority's, as given, or the subject's if the certificate is self-signed.
pub record IsIdentified (b : CertificateBuilder) (tbs : TbsCertificate) : Type 0 where
  pub issuer : IssuerInfos
  pub given : b.issuer_infos ≡ Some issuer
  pub own : List ℕ
  pub identified : IsKeyIdentifier b.key_id_gen_method tbs.subject_public_key_info own
  pub key : HasFirst CE_SUBJECT_KEY_IDENTIFIER.now (extensions_in tbs.extensions)
      (views.SubjectKeyIdentifier own)
  pub authority : NamesKey (extensions_in tbs.extensions)
      (authority_of issuer.self_signed b.authority_key_identifier own)
