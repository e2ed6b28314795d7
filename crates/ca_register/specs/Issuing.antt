-- When a register issues a certificate, and why it doesn't: the steps in order.
use Rattle.std.specs.Prelude.{◌≡◌, ◌<◌, ◌≤◌, ℕ, false, IsTrue, List, [], ◌∷◌, ◌++◌, length, Some}
use Rattle.std.specs.List.{slice_get}
use Rattle.der_core.specs.Encoding.{encoding}
use Rattle.der_core.specs.Refusals.{RefusesOctets, Wraps}
use Rattle.der_core.specs.Steps.{IsFirstUntaken, Step}
use Rattle.key_core.specs.Signing.{KeyArithmetic}
use Rattle.key_core.specs.declared.element.Element.TheVariants as elements
use Rattle.x509_issuing.specs.CertificationRequest.{IsRequest}
use Rattle.x509_core.specs.History.{AreAncestors}
use Rattle.x509_core.specs.Issued.{HasCert}
use Rattle.x509_core.specs.OwnedCertificate.{KeptCertificate}
use Rattle.x509_core.specs.Link.{IsBadlySignedLink, IsSignedBy}
use Rattle.x509_core.specs.declared.error.CertCause.TheVariants as causes
use Rattle.x509_issuing.specs.Building.{IsBuilt, build_steps}
use Rattle.x509_issuing.specs.CsrRefusals.{IsUnreadCsr}
use Rattle.x509_issuing.specs.OwnedRequest.{KeptRequest, kept_request}
use Rattle.x509_issuing.specs.declared.builder.CertificateBuilder.{CertificateBuilder}
use Rattle.ca_register.specs.Entries.{HasEntry, history_of}
use Rattle.ca_register.specs.Refusals.{unbuilt, unread_request, wrong_key}
use Rattle.ca_register.specs.declared.entry.Entry.{Entry}
use Rattle.ca_register.specs.declared.entry.Grant.{Grant}
use Rattle.ca_register.specs.declared.error.IssueError.{IssueError}
use Rattle.ca_register.specs.declared.error.IssueError.TheVariants as errors

-- ---- what the entries decide

-- the ancestors of a certificate with this issuer, the nearest first: the issuer, then its own
pub record AreAbove (entries : List Entry) (issuer : ℕ) (line : List ℕ) : Type 0 where
  pub ancestors : List ℕ
  pub is : line ≡ issuer ∷ ancestors
  pub are : AreAncestors (history_of entries) issuer ancestors

-- The path length of the ancestor with this number, counted from 0, is less than the number (RFC
-- 5280 4.2.1.9).
pub record IsTooShort (entries : List Entry) (line : List ℕ) (number : ℕ) : Type 0 where
  pub place : ℕ
  pub at : slice_get line number ≡ Some place
  pub entry : Entry
  pub has : HasEntry entries place entry
  pub limit : ℕ
  pub limited : entry.grant.path_length ≡ Some limit
  pub short : limit < number

-- The nearest ancestor whose path length is too short has this number.
pub record IsFirstTooShort (entries : List Entry) (issuer number : ℕ) : Type 0 where
  pub line : List ℕ
  pub above : AreAbove entries issuer line
  pub short : IsTooShort entries line number
  pub first : (nearer : ℕ) → nearer < number → IsTooShort entries line nearer → ⊥

-- no ancestor's path length is too short
abbrev pub NoneTooShort : List Entry → (issuer : ℕ) → Type 0
NoneTooShort entries issuer =
    (line : List ℕ) (number : ℕ) → AreAbove entries issuer line → IsTooShort entries line number → ⊥

-- the issuer is one of the register
abbrev pub issuer_step : List Entry → (issuer : ℕ) → Step IssueError
issuer_step entries issuer = record {
  taken = issuer < length entries;
  refused = λ e. (length entries ≤ issuer) × (e ≡ errors.NoIssuer issuer (length entries));
}

-- the issuer is a CA
abbrev pub authority_step : List Entry → (issuer : ℕ) → Step IssueError
authority_step entries issuer = record {
  taken = (entry : Entry) × HasEntry entries issuer entry × IsTrue entry.grant.ca;
  refused = λ e. (entry : Entry) × HasEntry entries issuer entry × (entry.grant.ca ≡ false)
      × (e ≡ errors.NotCa);
}

-- the path lengths of all ancestors allow for one certificate more
abbrev pub depth_step : List Entry → (issuer : ℕ) → Step IssueError
depth_step entries issuer = record {
  taken = NoneTooShort entries issuer;
  refused = λ e. (number : ℕ) × IsFirstTooShort entries issuer number
      × (e ≡ errors.TooDeep number);
}

-- The steps that the entries decide, in order.
abbrev pub record_steps : List Entry → (issuer : ℕ) → List (Step IssueError)
record_steps entries issuer =
    issuer_step entries issuer ∷ authority_step entries issuer ∷ depth_step entries issuer ∷ []

-- a root is a CA
abbrev pub root_step : Grant → Step IssueError
root_step grant = record {
  taken = IsTrue grant.ca;
  refused = λ e. (grant.ca ≡ false) × (e ≡ errors.NotCa);
}

-- ---- building

-- the octets are a request
abbrev pub request_step : List ℕ → Step IssueError
request_step octets = record {
  taken = (csr : KeptRequest) × (encoding (kept_request csr) ≡ octets);
  refused = Wraps unread_request (IsUnreadCsr elements.Request (RefusesOctets IsRequest octets));
}

-- The certificate is what such a builder builds.
pub record IsBuiltBy (scheme : KeyArithmetic) (word : ℕ) (IsBuilder : CertificateBuilder → Type 0)
    (cert : KeptCertificate) : Type 0 where
  pub builder : CertificateBuilder
  pub is : IsBuilder builder
  pub built : IsBuilt scheme builder word cert

-- such a builder builds a certificate
abbrev pub root_build_step : KeyArithmetic → ℕ → (CertificateBuilder → Type 0) → Step IssueError
root_build_step scheme word IsBuilder = record {
  taken = (cert : KeptCertificate) × IsBuiltBy scheme word IsBuilder cert;
  refused = λ e. (b : CertificateBuilder) × IsBuilder b
      × Wraps unbuilt (IsFirstUntaken (build_steps scheme b word)) e;
}

-- The steps of issuing a root, in order.
abbrev pub root_steps : KeyArithmetic → ℕ → Grant → (CertificateBuilder → Type 0)
    → List (Step IssueError)
root_steps scheme word grant IsBuilder =
    root_step grant ∷ root_build_step scheme word IsBuilder ∷ []

module _ (scheme : KeyArithmetic) (word : ℕ) (certificates : List KeptCertificate) (issuer : ℕ)
    (IsBuilder : KeptCertificate → CertificateBuilder → Type 0) where
  -- The certificate is what such a builder builds under the certificate at the issuer's index.
  pub record IsBuiltUnder (cert : KeptCertificate) : Type 0 where
    pub parent : KeptCertificate
    pub has : HasCert certificates issuer parent
    pub by : IsBuiltBy scheme word (IsBuilder parent) cert

  -- Its signature is one by the key of that certificate.
  pub record IsIssuedCert (cert : KeptCertificate) : Type 0 where
    pub under : IsBuiltUnder cert
    pub signed : IsSignedBy scheme.judge under.parent.elements cert.elements

  -- such a builder builds a certificate
  abbrev pub build_step : Step IssueError
  build_step = record {
    taken = (cert : KeptCertificate) × IsBuiltUnder cert;
    refused = λ e. (parent : KeptCertificate) × (b : CertificateBuilder)
        × HasCert certificates issuer parent × IsBuilder parent b
        × Wraps unbuilt (IsFirstUntaken (build_steps scheme b word)) e;
  }

  -- the signature is one by the key of the issuer's certificate
  abbrev pub key_step : Step IssueError
  key_step = record {
    taken = (cert : KeptCertificate) × IsIssuedCert cert;
    refused = λ e. (cert : KeptCertificate) × (under : IsBuiltUnder cert)
        × Wraps wrong_key
        (λ source. IsBadlySignedLink scheme.judge under.parent.elements cert.elements
        (causes.Signature source)) e;
  }

  -- the steps under the issuer's certificate
  abbrev pub signed_steps : List (Step IssueError)
  signed_steps = build_step ∷ key_step ∷ []

  -- The steps of issuing a certificate for a name and a key, in order.
  abbrev pub child_steps : List Entry → List (Step IssueError)
  child_steps entries = record_steps entries issuer ++ signed_steps

  -- The steps of issuing a certificate for a request, in order.
  abbrev pub enrol_steps : List Entry → (octets : List ℕ) → List (Step IssueError)
  enrol_steps entries octets = record_steps entries issuer ++ request_step octets ∷ signed_steps

-- ---- what is added

-- The entry and such a certificate are added at the end, and the index is theirs.
pub record Adds (entry : Entry) (IsCert : KeptCertificate → Type 0)
    (entries entries_now : List Entry) (certificates certificates_now : List KeptCertificate)
    (place : ℕ) : Type 0 where
  pub place_is : place ≡ length entries
  pub recorded : entries_now ≡ entries ++ entry ∷ []
  pub cert : KeptCertificate
  pub is : IsCert cert
  pub kept : certificates_now ≡ certificates ++ cert ∷ []
