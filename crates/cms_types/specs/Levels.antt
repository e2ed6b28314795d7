-- Signers, their unsigned attributes and signed data, each at its own level.
use Rattle.std.specs.Prelude.{◌≡◌, ⊤, ℕ, List, [], ◌∷◌, Option, Some, None}
use Rattle.der_core.specs.DerElement.{DerElement, Constructed, row}
use Rattle.der_core.specs.Each.{IsListOf}
use Rattle.der_core.specs.Elements.{sequence, set, octet_string}
use Rattle.der_core.specs.Structure.{Fits}
use Rattle.asn1_types.specs.Elements.{object_identifier}
use Rattle.asn1_types.specs.Values.{identifier_contents}
use Rattle.asn1_types.specs.declared.oid.ObjectIdentifier.{ObjectIdentifier}
use Rattle.key_types.specs.AlgorithmIdentifier.{algorithm_identifier}
use Rattle.key_types.specs.declared.algorithm.AlgorithmIdentifier.{AlgorithmIdentifier}
use Rattle.cms_content.specs.ContentInfo.{content_info}
use Rattle.cms_content.specs.declared.content_info.EncapsulatedContentInfo.{EncapsulatedContentInfo}
use Rattle.cms_types.specs.CmsVersion.{cms_version}
use Rattle.cms_types.specs.SignerIdentifier.{signer_identifier}
use Rattle.x509_types.specs.Attribute.{AreAttributes}
use Rattle.cms_types.specs.SignerElements.{SignerElements, signer_of}
use Rattle.cms_types.specs.SignedDataElements.{SignedDataElements, signed_data_of}
use Rattle.cms_types.specs.UnsignedKind.{named_unsigned}
use Rattle.cms_types.specs.declared.signer_info.identifier.SignerIdentifier.{SignerIdentifier}
use Rattle.cms_types.specs.declared.unsigned_attribute.kind.UnsignedKind.{UnsignedKind}
use Rattle.cms_types.specs.declared.version.CmsVersion.{CmsVersion}

-- what holds for an element, if there is one
abbrev pub OfOption : (DerElement → Type 0) → Option DerElement → Type 0
OfOption holds None = ⊤
OfOption holds (Some element) = holds element

-- a constructed element with the tag
abbrev pub IsConstructed : ℕ → DerElement → Type 0
IsConstructed tag element = (kids : List DerElement) × (element ≡ Constructed tag (row kids))

-- the element is that of a version
abbrev pub IsCmsVersion : DerElement → CmsVersion → Type 0
IsCmsVersion element value = element ≡ cms_version value

-- the element is that of the identifier of a signer's certificate
abbrev pub IsSignerIdentifier : DerElement → SignerIdentifier → Type 0
IsSignerIdentifier element value = element ≡ signer_identifier value

-- the element is that of an algorithm
abbrev pub IsAlgorithm : DerElement → AlgorithmIdentifier → Type 0
IsAlgorithm element value = element ≡ algorithm_identifier value

-- the element is an OCTET STRING with these octets
abbrev pub IsOctetString : DerElement → List ℕ → Type 0
IsOctetString element octets = element ≡ octet_string octets

-- the element is that of a content with its type
abbrev pub IsContentInfo : DerElement → EncapsulatedContentInfo → Type 0
IsContentInfo element value = element ≡ content_info value

-- Each field of a SignerInfo has its structure, except for the unsigned attributes, which aren't
-- specified here.
pub record AreSignerFields (f : SignerElements) : Type 0 where
  pub version : Fits IsCmsVersion f.version
  pub sid : Fits IsSignerIdentifier f.sid
  pub digest_algorithm : Fits IsAlgorithm f.digest_algorithm
  pub signed_attrs : OfOption (Fits AreAttributes) f.signed_attrs
  pub signature_algorithm : Fits IsAlgorithm f.signature_algorithm
  pub signature : Fits IsOctetString f.signature
  pub unsigned_attrs : OfOption (IsConstructed 0xA1) f.unsigned_attrs

-- Each field of SignedData has its structure, except for the signers, which aren't specified here.
-- CertificateSet and RevocationInfoChoices contain any elements.
pub record AreSignedDataFields (f : SignedDataElements) : Type 0 where
  pub version : Fits IsCmsVersion f.version
  pub digest_algorithms : Fits (IsListOf 0x31 IsAlgorithm) f.digest_algorithms
  pub content_info : Fits IsContentInfo f.content_info
  pub certificates : OfOption (IsConstructed 0xA0) f.certificates
  pub crls : OfOption (IsConstructed 0xA1) f.crls
  pub signers_infos : IsConstructed 0x31 f.signers_infos

-- The element is a SignerInfo with these fields.
pub record IsSignerOf (element : DerElement) (f : SignerElements) : Type 0 where
  pub is : element ≡ signer_of f
  pub fields : AreSignerFields f

-- The element is SignedData with these fields.
pub record IsSignedDataOf (element : DerElement) (f : SignedDataElements) : Type 0 where
  pub is : element ≡ signed_data_of f
  pub fields : AreSignedDataFields f

-- The element is an attribute with this kind and these values: Attribute ::= SEQUENCE { attrType
-- OBJECT IDENTIFIER, attrValues SET OF AttributeValue }
pub record IsUnsignedOf (element : DerElement) (kind : UnsignedKind)
    (values : List DerElement) : Type 0 where
  pub ty : ObjectIdentifier
  pub is : element ≡ sequence (object_identifier ty ∷ set values ∷ [])
  pub named : kind ≡ named_unsigned (identifier_contents ty)
