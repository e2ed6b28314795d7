-- The fields of a SignerInfo as elements (RFC 5652 5.3).
use Rattle.std.specs.Prelude.{◌∷◌, ◌++◌, Option, option_to_list}
use Rattle.der_core.specs.DerElement.{DerElement}
use Rattle.der_core.specs.Elements.{sequence}

-- Any element for each field.
pub record SignerElements : Type 0 where
  pub version : DerElement
  pub sid : DerElement
  pub digest_algorithm : DerElement
  pub signed_attrs : Option DerElement
  pub signature_algorithm : DerElement
  pub signature : DerElement
  pub unsigned_attrs : Option DerElement

-- SignerInfo ::= SEQUENCE { version CMSVersion, sid SignerIdentifier, digestAlgorithm
-- DigestAlgorithmIdentifier, signedAttrs [0] IMPLICIT SignedAttributes OPTIONAL, signatureAlgorithm
-- SignatureAlgorithmIdentifier, signature SignatureValue, unsignedAttrs [1] IMPLICIT
-- UnsignedAttributes OPTIONAL }
abbrev pub signer_of : SignerElements → DerElement
signer_of f =
    sequence (f.version ∷ f.sid ∷ f.digest_algorithm ∷ (option_to_list f.signed_attrs
    ++ (f.signature_algorithm ∷ f.signature ∷ option_to_list f.unsigned_attrs)))
