-- Signed data without signers, with certificates only (RFC 5652 5.1).
use Rattle.std.specs.Prelude.{List, [], ◌∷◌, Some, None}
use Rattle.asn1_types.specs.Elements.{integer_of, object_identifier_of}
use Rattle.asn1_types.specs.declared.oids.TheConstants.{DATA}
use Rattle.cms_content.specs.ContentInfoElements.{content_info_of}
use Rattle.cms_types.specs.SignedDataElements.{SignedDataElements}
use Rattle.der_core.specs.DerElement.{DerElement, Constructed, row}
use Rattle.der_core.specs.Elements.{set}

-- version 1, no digest algorithm, the type of data without a content, the certificates, revocation
-- lists, present but empty, no signer
abbrev pub certificates_alone : List DerElement → SignedDataElements
certificates_alone certificates = record {
  version = integer_of (1 ∷ []);
  digest_algorithms = set [];
  content_info = content_info_of (object_identifier_of DATA.now) None;
  certificates = Some (Constructed 0xA0 (row certificates));
  crls = Some (Constructed 0xA1 (row []));
  signers_infos = set [];
}
