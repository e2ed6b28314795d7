-- The signature, field by field (RFC 2315 9.1, 9.2; Windows Authenticode Portable Executable
-- Signature Format).
use Rattle.std.specs.Prelude.{ℕ, List, [], ◌∷◌, Option, Some}
use Rattle.asn1_types.specs.Elements.{integer_of, object_identifier_of}
use Rattle.asn1_types.specs.declared.oids.TheConstants.{RSA_ENCRYPTION}
use Rattle.cms_types.specs.SignedDataElements.{SignedDataElements}
use Rattle.cms_types.specs.SignerElements.{SignerElements, signer_of}
use Rattle.der_core.specs.DerElement.{DerElement, Constructed, row}
use Rattle.der_core.specs.Elements.{set, octet_string, null}
use Rattle.key_types.specs.AlgorithmIdentifier.{algorithm_of}

-- What varies: the digest algorithm, the content with its type, the certificates, the identifier of
-- the signer's, its signed attributes with their tag, its signature, and its unsigned attributes.
pub record SignatureParts : Type 0 where
  pub algorithm : DerElement
  pub content_info : DerElement
  pub certificates : List DerElement
  pub named : DerElement
  pub attributes : DerElement
  pub signature : List ℕ
  pub unsigned : Option DerElement

-- version 1
abbrev pub version_one : DerElement
version_one = integer_of (1 ∷ [])

-- rsaEncryption, with NULL (RFC 8017 C)
abbrev pub rsa_encryption : DerElement
rsa_encryption = algorithm_of (object_identifier_of RSA_ENCRYPTION.now) (Some null)

-- signed attributes with their tag
abbrev pub attributes_element : List DerElement → DerElement
attributes_element attributes = Constructed 0xA0 (row attributes)

-- the signer
abbrev pub signer_made : SignatureParts → SignerElements
signer_made p = record {
  version = version_one;
  sid = p.named;
  digest_algorithm = p.algorithm;
  signed_attrs = Some p.attributes;
  signature_algorithm = rsa_encryption;
  signature = octet_string p.signature;
  unsigned_attrs = p.unsigned;
}

-- The signed data: one digest algorithm, one signer, and revocation lists, present but empty.
abbrev pub signature_made : SignatureParts → SignedDataElements
signature_made p = record {
  version = version_one;
  digest_algorithms = set (p.algorithm ∷ []);
  content_info = p.content_info;
  certificates = Some (Constructed 0xA0 (row p.certificates));
  crls = Some (Constructed 0xA1 (row []));
  signers_infos = set (signer_of (signer_made p) ∷ []);
}
