-- Certificates that are issued for the steps of a demonstration.
use Rattle.std.specs.Prelude.{◌≡◌, ℕ, List, length, Some}
use Rattle.std.specs.List.{slice_get}
use Rattle.key_core.specs.Keys.{info_of}
use Rattle.key_core.specs.declared.private_key.PrivateKey.{PrivateKey}
use Rattle.key_core.specs.declared.public_key.PublicKey.{PublicKey}
use Rattle.name_types.specs.Name.{name}
use Rattle.x509_types.specs.CertificateElements.{certificate_of}
use Rattle.x509_types.specs.ExtensionParts.{HasSubjectKey}
use Rattle.sig_core.specs.DemoScheme.{demo_verdict}
use Rattle.x509_core.specs.History.{IssuingStep, HasStep, History}
use Rattle.x509_core.specs.Issued.{HasCert, IsIssued}
use Rattle.x509_core.specs.OwnedCertificate.{KeptCertificate}
use Rattle.demo_core.specs.Builders.{IsYearGiven}
use Rattle.demo_core.specs.Certificates.{step_certificate, step_key_id, step_name}
use Rattle.demo_core.specs.Secrets.{AreStepKeys}
use Rattle.demo_core.specs.declared.history.Step.{Step}

-- The public key is that of the step of this index.
pub record IsStepKey (index : ℕ) (own : PublicKey) : Type 0 where
  pub private : PrivateKey
  pub keys : AreStepKeys index private (info_of own)

-- The subject of the certificate is that of the step of this index: name, public key, and its key
-- identifier (RFC 5280 4.2.1.2).
pub record IsOfSubject (index : ℕ) (cert : KeptCertificate) : Type 0 where
  pub named : name cert.certificate.tbs_certificate.subject ≡ step_name index
  pub private : PrivateKey
  pub keys : AreStepKeys index private cert.certificate.tbs_certificate.subject_public_key_info
  pub identified : HasSubjectKey cert.elements (step_key_id index)

-- The certificate is the step's, element for element, and its subject is that of the step.
pub record IsStepCert (index : ℕ) (step : Step) (cert : KeptCertificate) : Type 0 where
  pub is : certificate_of cert.elements ≡ step_certificate index step
  pub subject : IsOfSubject index cert

-- The recorded step has the issuer, the CA flag, the path length and the years of the step.
pub record IsRecordOf (step : Step) (recorded : IssuingStep) : Type 0 where
  pub issuer : recorded.issuer ≡ step.issuer
  pub ca : recorded.ca ≡ step.ca
  pub path_length : recorded.pathlen ≡ step.path_length
  pub begins : IsYearGiven step.years.first (Some recorded.not_before)
  pub ends : IsYearGiven step.years.last (Some recorded.not_after)

-- The history records steps, the first ones of these: each recorded step is that of its index.
abbrev pub AreRecords : List Step → History → Type 0
AreRecords steps history =
    (index : ℕ) (step : Step) (recorded : IssuingStep) → slice_get steps index ≡ Some step
    → HasStep history index recorded → IsRecordOf step recorded

-- The history records so many of the steps, the first ones, and issued the certificates.
pub record IsHistoryOf (steps : List Step) (number : ℕ) (certificates : List KeptCertificate)
    (history : History) : Type 0 where
  pub all : length history ≡ number
  pub records : AreRecords steps history
  pub issued : IsIssued demo_verdict history certificates

-- The certificates are those of so many of the steps, the first ones: each is the step's, element
-- for element, and a history that records these steps issued them.
pub record AreStepCerts (steps : List Step) (number : ℕ) (certificates : List KeptCertificate)
    : Type 0 where
  pub history : History
  pub of : IsHistoryOf steps number certificates history
  pub each : (index : ℕ) (step : Step) (cert : KeptCertificate)
      → slice_get steps index ≡ Some step → HasCert certificates index cert
      → IsStepCert index step cert
