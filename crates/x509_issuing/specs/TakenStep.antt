-- The step of an issuing history that a builder takes.
use Rattle.std.specs.Prelude.{◌≡◌, ℕ, true, false, List, Option, Some, None}
use Rattle.key_core.specs.Signing.{Pair, IsKeyPair}
use Rattle.names_core.specs.Names.{sets_of}
use Rattle.x509_types.specs.ExtensionParts.{HasSubjectKey}
use Rattle.x509_core.specs.History.{IssuingStep}
use Rattle.x509_core.specs.Issued.{HasCert}
use Rattle.x509_core.specs.OwnedCertificate.{KeptCertificate}
use Rattle.x509_issuing.specs.declared.builder.CertificateBuilder.{CertificateBuilder}
use Rattle.x509_issuing.specs.declared.builder.IssuerInfos.{IssuerInfos}

-- The certificate is the issuer's: its subject is the issuer's name, its subject key identifier the
-- authority key identifier, and its key pairs with the issuer's. `issuer_cert` sets all of this,
-- given that key.
pub record IsIssuerCert (pair : Pair) (b : CertificateBuilder) (issuer : IssuerInfos)
    (cert : KeptCertificate) : Type 0 where
  pub other : issuer.self_signed ≡ false
  pub name : sets_of issuer.name ≡ cert.certificate.tbs_certificate.subject
  pub key : List ℕ
  pub had : HasSubjectKey cert.elements key
  pub authority : b.authority_key_identifier ≡ Some key
  pub paired : IsKeyPair pair issuer.key.now cert.certificate.tbs_certificate.subject_public_key_info

-- the issuer is the subject of a root, else that of one of the certificates, at this index
abbrev pub IsIssuerAt : Pair → CertificateBuilder → IssuerInfos → List KeptCertificate → Option ℕ
    → Type 0
IsIssuerAt pair b issuer certificates None = issuer.self_signed ≡ true
IsIssuerAt pair b issuer certificates (Some index) =
    (cert : KeptCertificate) × HasCert certificates index cert × IsIssuerCert pair b issuer cert

-- After these certificates, the builder takes the step: flag, path length and validity are its own,
-- and the issuer is that of the step.
pub record TakesStep (pair : Pair) (b : CertificateBuilder) (certificates : List KeptCertificate)
    (step : IssuingStep) : Type 0 where
  pub ca : step.ca ≡ b.ca
  pub pathlen : step.pathlen ≡ b.pathlen
  pub begins : b.valid_from ≡ Some step.not_before
  pub ends : b.valid_to ≡ Some step.not_after
  pub issuer : IssuerInfos
  pub given : b.issuer_infos ≡ Some issuer
  pub by : IsIssuerAt pair b issuer certificates step.issuer
