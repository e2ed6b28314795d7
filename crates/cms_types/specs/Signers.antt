-- Signers have unsigned attributes, these contain signers or signed data, and signed data contains
-- signers (RFC 5652 5.1, 5.3, 11.4). The structure of these elements is specified on elements
-- alone, level by level.
use Rattle.std.specs.Prelude.{◌≡◌, List, [], ◌∷◌, Some, None}
use Rattle.der_core.specs.DerElement.{DerElement, Constructed, row}
use Rattle.der_core.specs.Elements.{set}
use Rattle.cms_types.specs.Levels.{IsSignerOf, IsSignedDataOf, IsUnsignedOf}
use Rattle.cms_types.specs.Pkcs7Elements.{pkcs7_of}
use Rattle.cms_types.specs.SignerElements.{SignerElements}
use Rattle.cms_types.specs.SignedDataElements.{SignedDataElements}
use Rattle.cms_types.specs.declared.unsigned_attribute.kind.UnsignedKind.TheVariants as kinds

mutual
  -- a SignerInfo, without unsigned attributes or with such ones
  pub data IsSignerInfo : DerElement → Type 0 where
    Bare : {element : DerElement} {f : SignerElements} → IsSignerOf element f
        → f.unsigned_attrs ≡ None → IsSignerInfo element
    WithUnsigned : {element : DerElement} {f : SignerElements} {attributes : List DerElement}
        → IsSignerOf element f → f.unsigned_attrs ≡ Some (Constructed 0xA1 (row attributes))
        → AreUnsignedAttributes attributes → IsSignerInfo element

  -- an attribute whose values are signers, or signed data, by its OID, or any other
  pub data IsUnsignedAttribute : DerElement → Type 0 where
    Counter : {element : DerElement} {values : List DerElement}
        → IsUnsignedOf element kinds.CounterSign values → AreSignerInfos values
        → IsUnsignedAttribute element
    MsCounter : {element : DerElement} {values : List DerElement}
        → IsUnsignedOf element kinds.MsCounterSign values → ArePkcs7s values
        → IsUnsignedAttribute element
    Any : {element : DerElement} {values : List DerElement}
        → IsUnsignedOf element kinds.Other values → IsUnsignedAttribute element

  -- SignedData whose signers are such
  pub data IsSignedData : DerElement → Type 0 where
    Signed : {element : DerElement} {f : SignedDataElements} {signers : List DerElement}
        → IsSignedDataOf element f → f.signers_infos ≡ set signers → AreSignerInfos signers
        → IsSignedData element

  -- ContentInfo of such signed data
  pub data IsPkcs7 : DerElement → Type 0 where
    Pkcs7 : {element signed_data : DerElement} → element ≡ pkcs7_of signed_data
        → IsSignedData signed_data → IsPkcs7 element

  -- each of several
  pub data AreSignerInfos : List DerElement → Type 0 where
    NoSigners : AreSignerInfos []
    MoreSigners : {kid : DerElement} {kids : List DerElement} → IsSignerInfo kid
        → AreSignerInfos kids → AreSignerInfos (kid ∷ kids)

  pub data AreUnsignedAttributes : List DerElement → Type 0 where
    NoUnsigned : AreUnsignedAttributes []
    MoreUnsigned : {kid : DerElement} {kids : List DerElement} → IsUnsignedAttribute kid
        → AreUnsignedAttributes kids → AreUnsignedAttributes (kid ∷ kids)

  pub data ArePkcs7s : List DerElement → Type 0 where
    NoPkcs7s : ArePkcs7s []
    MorePkcs7s : {kid : DerElement} {kids : List DerElement} → IsPkcs7 kid → ArePkcs7s kids
        → ArePkcs7s (kid ∷ kids)
