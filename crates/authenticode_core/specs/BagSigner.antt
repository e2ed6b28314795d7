-- The signer's certificate (RFC 5652 5.3, 10.2.4).
use Rattle.std.specs.Prelude.{◌≡◌, ℕ, List, ◌∷◌}
use Rattle.der_core.specs.DerElement.{DerElement}
use Rattle.asn1_types.specs.Values.{integer_contents}
use Rattle.name_types.specs.Name.{name}
use Rattle.x509_types.specs.CertificateElements.{CertificateElements}
use Rattle.cms_types.specs.SignerInfo.{signer_info}
use Rattle.cms_types.specs.declared.signer_info.SignerInfo.{SignerInfo}
use Rattle.cms_types.specs.declared.signer_info.identifier.SignerIdentifier.TheVariants as named
use Rattle.cms_types.specs.declared.signer_info.issuer_and_serial.IssuerAndSerialNumber.{IssuerAndSerialNumber}
use Rattle.authenticode_core.specs.SameElements.{IsSameElement}
use Rattle.authenticode_core.specs.Indices.{IsLeastPlace, HasNoPlace}

-- the certificate has this issuer and this serial number
abbrev pub HasIssuerAndSerial : IssuerAndSerialNumber → CertificateElements → Type 0
HasIssuerAndSerial value c =
    IsSameElement (name value.issuer) c.tbs.issuer
    × (integer_contents value.serial_number ≡ c.tbs.serial_number)

-- The first signer identifies the certificate by issuer and serial number.
pub record IsNamedByFirst (signers : List DerElement) (c : CertificateElements) : Type 0 where
  pub signer : SignerInfo
  pub others : List DerElement
  pub first : signers ≡ signer_info signer ∷ others
  pub value : IssuerAndSerialNumber
  pub sid : signer.sid ≡ named.IssuerAndSerialNumber value
  pub has : HasIssuerAndSerial value c

-- the index is the least one whose certificate the first signer identifies
abbrev pub IsSignerPlace : List DerElement → List CertificateElements → ℕ → CertificateElements
    → Type 0
IsSignerPlace signers bag place c = IsLeastPlace bag (IsNamedByFirst signers) 0 place c

-- There is no such index: there is no signer, it has a key identifier, or no certificate has its
-- issuer and serial number.
abbrev pub HasNoSigner : List DerElement → List CertificateElements → Type 0
HasNoSigner signers bag = HasNoPlace bag (IsNamedByFirst signers) 0
