-- The builder of a step's certificate, as a demonstration sets it.
use Rattle.std.specs.Prelude.{◌≡◌, ℕ, true, false, [], ◌∷◌, Option, Some, None}
use Rattle.asn1_types.specs.Time.{generalized_fields}
use Rattle.asn1_types.specs.declared.generalized_time.GeneralizedTime.{GeneralizedTime}
use Rattle.name_types.specs.Name.{name}
use Rattle.key_types.specs.declared.key_info.SubjectPublicKeyInfo.{SubjectPublicKeyInfo}
use Rattle.names_core.specs.Names.{sets_of}
use Rattle.names_core.specs.declared.name.DirectoryName.{DirectoryName}
use Rattle.sig_core.specs.declared.hash.HashAlgorithm.TheVariants.{SHA2_256}
use Rattle.key_core.specs.Keys.{info_of}
use Rattle.key_core.specs.declared.key_id.KeyIdGenMethod.TheVariants.{SPKFullDER}
use Rattle.key_core.specs.declared.private_key.PrivateKey.{PrivateKey}
use Rattle.key_core.specs.declared.public_key.PublicKey.{PublicKey}
use Rattle.key_core.specs.declared.signature_algorithm.SignatureAlgorithm.TheVariants.{RsaPkcs1v15}
use Rattle.x509_issuing.specs.declared.builder.CertificateBuilder.{CertificateBuilder}
use Rattle.x509_issuing.specs.declared.builder.IssuerInfos.{IssuerInfos}
use Rattle.x509_issuing.specs.declared.builder.SubjectInfos.TheVariants as subjects
use Rattle.demo_core.specs.Certificates.{signer_of, step_key_id, step_name}
use Rattle.demo_core.specs.Secrets.{AreStepKeys}
use Rattle.demo_core.specs.declared.history.Step.{Step}

-- the date is given, and is the first second of this year
abbrev pub IsYearGiven : ℕ → Option GeneralizedTime → Type 0
IsYearGiven year None = ⊥
IsYearGiven year (Some date) = generalized_fields date ≡ year ∷ 1 ∷ 1 ∷ 0 ∷ 0 ∷ 0 ∷ []

-- the name is that of the step of this index
abbrev pub IsStepName : ℕ → DirectoryName → Type 0
IsStepName index given = name (sets_of given) ≡ step_name index

-- The subject has the name and the public key of the step of this index, and the authority key
-- identifier is that of its issuer's key.
pub record IsIssuedTo (index issuer : ℕ) (b : CertificateBuilder) : Type 0 where
  pub authority : b.authority_key_identifier ≡ Some (step_key_id issuer)
  pub given : DirectoryName
  pub own : PublicKey
  pub subject : b.subject_infos ≡ Some (subjects.Named given own)
  pub named : IsStepName index given
  pub private : PrivateKey
  pub keys : AreStepKeys index private (info_of own)

-- the issuer of a root is its subject, and the subject of any other is given
abbrev pub HasSubject : ℕ → Option ℕ → CertificateBuilder → IssuerInfos → Type 0
HasSubject index None b infos = infos.self_signed ≡ true
HasSubject index (Some issuer) b infos = (infos.self_signed ≡ false) × IsIssuedTo index issuer b

-- The builder has the validity, the CA flag and the path length of the step, and nothing else.
pub record IsBegun (step : Step) (b : CertificateBuilder) : Type 0 where
  pub begins : IsYearGiven step.years.first b.valid_from
  pub ends : IsYearGiven step.years.last b.valid_to
  pub ca : b.ca ≡ step.ca
  pub path_length : b.pathlen ≡ step.path_length
  pub serial_number : b.serial_number ≡ None
  pub algorithm : b.signature_hash_type ≡ RsaPkcs1v15 SHA2_256
  pub method : b.key_id_gen_method ≡ SPKFullDER SHA2_256
  pub key_usage : b.key_usage ≡ None
  pub extended_key_usage : b.extended_key_usage ≡ None
  pub subject_alt_name : b.subject_alt_name ≡ None
  pub issuer_alt_name : b.issuer_alt_name ≡ None
  pub inherits : b.inherits ≡ false

-- The builder has the validity, the CA flag, the path length, the subject and the issuer of the
-- step, who has the keys of the step that signs, and nothing else.
pub record IsStepBuilder (index : ℕ) (step : Step) (b : CertificateBuilder)
    (issuer : IssuerInfos) : Type 0 where
  pub begins : IsYearGiven step.years.first b.valid_from
  pub ends : IsYearGiven step.years.last b.valid_to
  pub ca : b.ca ≡ step.ca
  pub path_length : b.pathlen ≡ step.path_length
  pub given : b.issuer_infos ≡ Some issuer
  pub named : IsStepName (signer_of index step.issuer) issuer.name
  pub public : SubjectPublicKeyInfo
  pub keys : AreStepKeys (signer_of index step.issuer) issuer.key.now public
  pub subject : HasSubject index step.issuer b issuer
  pub serial_number : b.serial_number ≡ None
  pub algorithm : b.signature_hash_type ≡ RsaPkcs1v15 SHA2_256
  pub method : b.key_id_gen_method ≡ SPKFullDER SHA2_256
  pub key_usage : b.key_usage ≡ None
  pub extended_key_usage : b.extended_key_usage ≡ None
  pub subject_alt_name : b.subject_alt_name ≡ None
  pub issuer_alt_name : b.issuer_alt_name ≡ None
  pub inherits : b.inherits ≡ false
