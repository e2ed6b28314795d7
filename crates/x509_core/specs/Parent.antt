-- Which certificate may be the parent of another, by names and key identifiers (RFC 5280 4.2.1.1,
-- 6.1.3).
use Rattle.std.specs.Prelude.{◌≡◌, ◌≢◌, ⊤, ℕ, List}
use Rattle.names_core.specs.Names.{sets_of}
use Rattle.names_core.specs.declared.name.DirectoryName.{DirectoryName}
use Rattle.x509_types.specs.CertificateElements.{CertificateElements}
use Rattle.x509_types.specs.ExtensionParts.{HasSubjectKey, HasAuthorityKey}
use Rattle.x509_core.specs.OwnedCertificate.{KeptCertificate}
use Rattle.x509_core.specs.declared.error.CaChainError.{CaChainError}
use Rattle.x509_core.specs.declared.error.CaChainError.TheVariants as chain
use Rattle.x509_core.specs.declared.error.CertCause.{CertCause}
use Rattle.x509_core.specs.declared.error.CertCause.TheVariants as causes
use Rattle.x509_core.specs.declared.error.CertError.{CertError}
use Rattle.x509_core.specs.declared.error.CertError.TheVariants as errors
use Rattle.x509_core.specs.declared.error.ExtName.TheVariants as names
use Rattle.x509_core.specs.declared.key_link.KeyLink.{KeyLink}
use Rattle.x509_core.specs.declared.key_link.KeyLink.TheVariants as links

-- the authority key identifier of the child, if any, is the subject key identifier of the parent
-- (RFC 5280 4.2.1.1)
abbrev pub AgreeByKey : (parent child : CertificateElements) → Type 0
AgreeByKey parent child = (key : List ℕ) → HasAuthorityKey child key → HasSubjectKey parent key

-- the issuer of the child is the subject of the parent (RFC 5280 6.1.3 (a) (4))
abbrev pub AgreeByName : (parent child : CertificateElements) → Type 0
AgreeByName parent child = child.tbs.issuer ≡ parent.tbs.subject

-- Names and key identifiers agree, as in a link of a chain.
pub record AgreeByKeyAndName (parent child : CertificateElements) : Type 0 where
  pub key : AgreeByKey parent child
  pub name : AgreeByName parent child

-- The child has an authority key identifier, and the parent no subject key identifier.
pub record LacksKey (parent child : CertificateElements) : Type 0 where
  pub key : List ℕ
  pub named : HasAuthorityKey child key
  pub none : (key : List ℕ) → HasSubjectKey parent key → ⊥

-- The authority key identifier of the child isn't the subject key identifier of the parent.
pub record DifferByKey (parent child : CertificateElements)
    (expected actual : List ℕ) : Type 0 where
  pub named : HasAuthorityKey child expected
  pub had : HasSubjectKey parent actual
  pub other : expected ≢ actual

-- how the two identifiers relate
abbrev pub IsKeyLink : (parent child : CertificateElements) → KeyLink → Type 0
IsKeyLink parent child links.Agree = AgreeByKey parent child
IsKeyLink parent child links.Missing = LacksKey parent child
IsKeyLink parent child (links.Differ expected actual) =
    DifferByKey parent child expected.now actual.now

-- errors name a certificate by its subject
abbrev pub IsNameOf : KeptCertificate → DirectoryName → Type 0
IsNameOf kept id = sets_of id ≡ kept.certificate.tbs_certificate.subject

-- The error reports this certificate with this cause, or out of memory.
abbrev pub IsInvalid : KeptCertificate → CertCause → CertError → Type 0
IsInvalid kept cause (errors.InvalidCertificate id source) = IsNameOf kept id × (source ≡ cause)
IsInvalid kept cause errors.Memory = ⊤
IsInvalid kept cause e = ⊥

-- The error reports that this certificate expects one key identifier and its parent has another, or
-- out of memory.
abbrev pub IsOtherKey : KeptCertificate → (expected actual : List ℕ) → CertError → Type 0
IsOtherKey kept expected actual =
    IsInvalid kept (causes.InvalidChain (chain.AuthorityKeyIdMismatch expected actual))

-- The names don't agree, and the key identifiers do.
pub record DifferByName (parent child : KeptCertificate)
    (expected actual : DirectoryName) : Type 0 where
  pub key : AgreeByKey parent.elements child.elements
  pub name : AgreeByName parent.elements child.elements → ⊥
  pub expected_is : sets_of expected ≡ child.certificate.tbs_certificate.issuer
  pub actual_is : sets_of actual ≡ parent.certificate.tbs_certificate.subject

-- `expected` is what the child has, `actual` what the parent has
abbrev pub RefusesChain : (parent child : KeptCertificate) → CaChainError → Type 0
RefusesChain parent child (chain.TooDeep id length) = ⊥
RefusesChain parent child chain.NoRoot = ⊥
RefusesChain parent child (chain.IssuerIsNotCA id) = ⊥
RefusesChain parent child (chain.AuthorityKeyIdMismatch expected actual) =
    DifferByKey parent.elements child.elements expected actual
RefusesChain parent child (chain.IssuerNameMismatch expected actual) =
    DifferByName parent child expected actual

-- the parent is reported if it has no key identifier, the child if one or the other doesn't agree
abbrev pub RefusesLink : (parent child : KeptCertificate) → DirectoryName → CertCause → Type 0
RefusesLink parent child id (causes.ExtensionNotFound name) =
    IsNameOf parent id × (name ≡ names.SubjectKeyIdentifier)
    × LacksKey parent.elements child.elements
RefusesLink parent child id (causes.InvalidChain source) =
    IsNameOf child id × RefusesChain parent child source
RefusesLink parent child id cause = ⊥

-- why a certificate isn't the parent of another
abbrev pub RefusesParent : (parent child : KeptCertificate) → CertError → Type 0
RefusesParent parent child (errors.InvalidCertificate id source) =
    RefusesLink parent child id source
RefusesParent parent child errors.Memory = ⊤
RefusesParent parent child e = ⊥
