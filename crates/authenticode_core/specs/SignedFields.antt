-- The fields of signed data that a check reads, by their elements (RFC 2315 9.1, 9.2; Windows
-- Authenticode Portable Executable Signature Format).
use Rattle.std.specs.Prelude.{◌≡◌, ⊤, ℕ, List, [], ◌∷◌, ◌++◌, Option, Some}
use Rattle.asn1_types.specs.Elements.{integer_of, object_identifier_of}
use Rattle.asn1_types.specs.declared.oids.TheConstants.{MESSAGE_DIGEST, SPC_INDIRECT_DATA}
use Rattle.cms_content.specs.ContentInfoElements.{content_info_of}
use Rattle.cms_types.specs.AttributeElement.{attribute_of}
use Rattle.cms_types.specs.SignedDataElements.{SignedDataElements}
use Rattle.cms_types.specs.SignerElements.{SignerElements}
use Rattle.cms_types.specs.SignerInfo.{signer_info, signer_elements}
use Rattle.cms_types.specs.declared.signer_info.SignerInfo.{SignerInfo}
use Rattle.der_core.specs.Optional.{members_of}
use Rattle.der_core.specs.DerElement.{DerElement}
use Rattle.der_core.specs.Elements.{sequence, set, octet_string}
use Rattle.der_core.specs.Encoding.{encoding}

-- the version number
abbrev pub HasVersion : SignedDataElements → ℕ → Type 0
HasVersion f number = f.version ≡ integer_of (number ∷ [])

-- the digest algorithms
abbrev pub digest_algorithms_of : SignedDataElements → List DerElement
digest_algorithms_of f = members_of (Some f.digest_algorithms)

-- the signers
abbrev pub signers_of : SignedDataElements → List DerElement
signers_of f = members_of (Some f.signers_infos)

-- the first of the digest algorithms
abbrev pub IsFirstAlgorithm : SignedDataElements → DerElement → Type 0
IsFirstAlgorithm f algorithm =
    (others : List DerElement) × (digest_algorithms_of f ≡ algorithm ∷ others)

-- the content, unless it is absent, with the contents octets of the OID of its type
abbrev pub HasSignedContent : SignedDataElements → List ℕ → Option DerElement → Type 0
HasSignedContent f content_type content =
    f.content_info ≡ content_info_of (object_identifier_of content_type) content

-- What varies in an SpcIndirectDataContent: what kind of file it is, the digest algorithm, and the
-- digest of the file.
pub record IndirectData : Type 0 where
  pub image : DerElement
  pub algorithm : DerElement
  pub digest : List ℕ

-- the elements in it
abbrev pub indirect_kids : IndirectData → List DerElement
indirect_kids d = d.image ∷ sequence (d.algorithm ∷ octet_string d.digest ∷ []) ∷ []

-- the content is indirect data
abbrev pub HasIndirectData : SignedDataElements → IndirectData → Type 0
HasIndirectData f d = HasSignedContent f SPC_INDIRECT_DATA.now (Some (sequence (indirect_kids d)))

-- The first signer, whose element encodes a value.
pub record IsFirstSigner (f : SignedDataElements) (g : SignerElements) : Type 0 where
  pub value : SignerInfo
  pub others : List DerElement
  pub is : g ≡ signer_elements value
  pub first : signers_of f ≡ signer_info value ∷ others

-- the signed attributes, none if the field is absent
abbrev pub signed_attributes_of : SignerElements → List DerElement
signed_attributes_of g = members_of g.signed_attrs

-- what a signer signs: its attributes as a SET, in the order in which they are (RFC 2315 9.3)
abbrev pub signed_message : SignerElements → List ℕ
signed_message g = encoding (set (signed_attributes_of g))

-- an attribute with this OID, given as contents octets, and these values (RFC 5652 5.3)
abbrev pub IsAttributeOf : List ℕ → DerElement → List DerElement → Type 0
IsAttributeOf oid element values = element ≡ attribute_of oid values

-- none of the elements is an attribute with this OID
abbrev pub NoneIsOf : List ℕ → List DerElement → Type 0
NoneIsOf oid [] = ⊤
NoneIsOf oid (element ∷ elements) =
    ((values : List DerElement) → IsAttributeOf oid element values → ⊥) × NoneIsOf oid elements

-- The first attribute with this OID has these values.
pub record IsFirstAttribute (oid : List ℕ) (elements values : List DerElement) : Type 0 where
  pub before : List DerElement
  pub attribute : DerElement
  pub after : List DerElement
  pub are : elements ≡ before ++ attribute ∷ after
  pub first : NoneIsOf oid before
  pub named : IsAttributeOf oid attribute values

-- The first message digest attribute has this first value (RFC 2985 5.3.2).
pub record HasMessageDigest (g : SignerElements) (digest : List ℕ) : Type 0 where
  pub others : List DerElement
  pub first : IsFirstAttribute MESSAGE_DIGEST.now (signed_attributes_of g)
      (octet_string digest ∷ others)
