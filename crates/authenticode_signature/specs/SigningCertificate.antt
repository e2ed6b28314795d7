-- The signer's certificate among others (RFC 5652 5.3, 10.2.4).
use Rattle.std.specs.Prelude.{◌≡◌, ⊤, ℕ, List, [], ◌∷◌, Some, map, slice_get}
use Rattle.cms_types.specs.SignerInfo.{signer_info}
use Rattle.cms_types.specs.declared.signer_info.SignerInfo.{SignerInfo}
use Rattle.cms_types.specs.declared.signer_info.identifier.SignerIdentifier.{SignerIdentifier}
use Rattle.cms_types.specs.declared.signer_info.identifier.SignerIdentifier.TheVariants as named
use Rattle.cms_types.specs.declared.signer_info.issuer_and_serial.IssuerAndSerialNumber.{IssuerAndSerialNumber}
use Rattle.names_core.specs.Names.{sets_of}
use Rattle.x509_core.specs.OwnedCertificate.{KeptCertificate}
use Rattle.authenticode_parts.specs.Carried.{elements_of}
use Rattle.authenticode_core.specs.BagSigner.{IsSignerPlace, HasNoSigner}
use Rattle.authenticode_core.specs.declared.error.AuthenticodeError.{AuthenticodeError}
use Rattle.authenticode_core.specs.declared.error.AuthenticodeError.TheVariants as errors

-- The certificate is one of these, at the least index of those that the first signer identifies.
pub record IsSigningCertificate (signers : List SignerInfo) (certificates : List KeptCertificate)
    (c : KeptCertificate) : Type 0 where
  pub place : ℕ
  pub stands : slice_get certificates place ≡ Some c
  pub is_signer : IsSignerPlace (map signer_info signers) (elements_of certificates) place
      c.elements

-- The first signer identifies its certificate by this.
pub record FirstNames (signers : List SignerInfo) (sid : SignerIdentifier) : Type 0 where
  pub signer : SignerInfo
  pub others : List SignerInfo
  pub first : signers ≡ signer ∷ others
  pub named : signer.sid ≡ sid

-- why the first signer has no issuer and serial number
abbrev pub IsNamedOtherwise : List SignerInfo → AuthenticodeError → Type 0
IsNamedOtherwise signers (errors.MultipleSignerInfo count) = (signers ≡ []) × (count ≡ 0)
IsNamedOtherwise signers errors.IncorrectSignerIdentifier =
    (octets : List ℕ) × FirstNames signers (named.SubjectKeyIdentifier octets)
IsNamedOtherwise signers _ = ⊥

-- Why none of the certificates is the signer's: the first signer has no issuer and serial number,
-- or none of the certificates has these.
abbrev pub HasNoSigningCertificate : List SignerInfo → List KeptCertificate → AuthenticodeError
    → Type 0
HasNoSigningCertificate signers certificates
    (errors.NoCertificatesAssociatedWithIssuerAndSerialNumber issuer serial_number) =
    FirstNames signers (named.IssuerAndSerialNumber
    (record { issuer = sets_of issuer; serial_number = serial_number }))
    × HasNoSigner (map signer_info signers) (elements_of certificates)
HasNoSigningCertificate signers certificates errors.Memory = ⊤
HasNoSigningCertificate signers certificates e = IsNamedOtherwise signers e
