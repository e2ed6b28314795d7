-- The results of the steps of the signing rules, each on its own.
use Rattle.std.specs.Prelude.{◌≡◌, ◌≢◌, ◌↔◌, ℕ, List, [], ◌∷◌, IsTrue}
use Rattle.asn1_types.specs.Elements.{object_identifier_of}
use Rattle.asn1_types.specs.Values.{integer_contents}
use Rattle.asn1_types.specs.declared.integer.IntegerAsn1.{IntegerAsn1}
use Rattle.asn1_types.specs.declared.oids.TheConstants.{KP_CODE_SIGNING}
use Rattle.cms_types.specs.SignedDataElements.{SignedDataElements}
use Rattle.cms_types.specs.SignerElements.{SignerElements}
use Rattle.der_core.specs.DerElement.{DerElement}
use Rattle.der_core.specs.Elements.{sequence}
use Rattle.der_core.specs.Encoding.{encoding}
use Rattle.der_core.specs.Rules.{Rule}
use Rattle.name_types.specs.Name.{name}
use Rattle.names_core.specs.Names.{sets_of}
use Rattle.names_core.specs.declared.name.DirectoryName.{DirectoryName}
use Rattle.sig_core.specs.Digest.{digest_of}
use Rattle.sig_core.specs.declared.hash.HashAlgorithm.{HashAlgorithm}
use Rattle.sig_core.specs.declared.hash.HashAlgorithm.TheVariants.{SHA2_224}
use Rattle.x509_types.specs.CertificateElements.{CertificateElements}
use Rattle.x509_types.specs.CertificateView.{view_elements}
use Rattle.x509_types.specs.Purposes.{NamesPurpose}
use Rattle.authenticode_core.specs.SignedFields.{HasMessageDigest, IndirectData}
use Rattle.authenticode_core.specs.SigningRules.{AsksForPurposes, DigestDiffers, HasNoMessageDigest, IsBagOf}
use Rattle.authenticode_core.specs.SigningRules.{IsSignerCertificate, IsUnsupportedDigest, digested_octets}
use Rattle.authenticode_core.specs.declared.error.AuthenticodeError.{AuthenticodeError}
use Rattle.authenticode_core.specs.declared.error.AuthenticodeError.TheVariants as errors
use Rattle.authenticode_core.specs.declared.bag.naming.Named.{Named}

-- the certificate of the first signer is at this index of the bag
abbrev pub HasSigner : SignedDataElements → ℕ → CertificateElements → Type 0
HasSigner f place c =
    (bag : List CertificateElements) × IsBagOf f bag × IsSignerCertificate f bag place c

-- the certificate of the first signer is at this index
abbrev pub HasSignerAt : SignedDataElements → ℕ → Type 0
HasSignerAt f place = (c : CertificateElements) × HasSigner f place c

-- The certificate of the first signer is at this index, and it is known whether its issuer walk has
-- an extended key usage.
pub record NamesSigner (f : SignedDataElements) (named : Named) : Type 0 where
  pub has : HasSigner f named.certificate.place (view_elements named.certificate.certificate)
  pub asks : IsTrue named.asks_for_purposes
      ↔ AsksForPurposes has.0 (view_elements named.certificate.certificate)

-- The error reports this issuer, given as octets, and this serial number, given as contents octets.
pub record ReportsName (issuer serial_number : List ℕ) (e : AuthenticodeError) : Type 0 where
  pub made : DirectoryName
  pub number : IntegerAsn1
  pub issuer_is : issuer ≡ encoding (name (sets_of made))
  pub number_is : integer_contents number ≡ serial_number
  pub returned : e ≡ errors.NoCertificatesAssociatedWithIssuerAndSerialNumber made number

-- the OID of an AlgorithmIdentifier has these contents octets
abbrev pub IsOfIdentifier : DerElement → List ℕ → Type 0
IsOfIdentifier element oid =
    (parameters : List DerElement) × (element ≡ sequence (object_identifier_of oid ∷ parameters))

-- the attributes have the digest of the indirect data, by an algorithm that isn't SHA-224
abbrev pub IsBoundBy : IndirectData → SignerElements → HashAlgorithm → Type 0
IsBoundBy d g hash = (hash ≢ SHA2_224) × HasMessageDigest g (digest_of hash (digested_octets d))

-- the rules of the message digest, in order
abbrev pub digest_rules : IndirectData → SignerElements → List (Rule AuthenticodeError)
digest_rules d g = HasNoMessageDigest g ∷ IsUnsupportedDigest g ∷ DigestDiffers d g ∷ []

-- the certificate may not sign code, which the error reports
abbrev pub MayNotSignCode : List CertificateElements → CertificateElements → Rule AuthenticodeError
MayNotSignCode bag c e =
    AsksForPurposes bag c × (NamesPurpose c KP_CODE_SIGNING.now → ⊥) × (e ≡ errors.NoEKUCodeSigning)
