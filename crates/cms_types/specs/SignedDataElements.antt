-- The fields of SignedData as elements (RFC 5652 5.1, RFC 2315 9.1).
use Rattle.std.specs.Prelude.{[], ◌∷◌, ◌++◌, Option, option_to_list}
use Rattle.der_core.specs.DerElement.{DerElement}
use Rattle.der_core.specs.Elements.{sequence}

-- Any element for each field.
pub record SignedDataElements : Type 0 where
  pub version : DerElement
  pub digest_algorithms : DerElement
  pub content_info : DerElement
  pub certificates : Option DerElement
  pub crls : Option DerElement
  pub signers_infos : DerElement

-- SignedData ::= SEQUENCE { version CMSVersion, digestAlgorithms DigestAlgorithmIdentifiers,
-- encapContentInfo EncapsulatedContentInfo, certificates [0] IMPLICIT CertificateSet OPTIONAL, crls
-- [1] IMPLICIT RevocationInfoChoices OPTIONAL, signerInfos SignerInfos }
abbrev pub signed_data_of : SignedDataElements → DerElement
signed_data_of f =
    sequence (f.version ∷ f.digest_algorithms ∷ f.content_info
    ∷ (option_to_list f.certificates ++ (option_to_list f.crls ++ f.signers_infos ∷ [])))
