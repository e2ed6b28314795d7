-- The fields of signed data of the plain form.
use Rattle.std.specs.Prelude.{◌≡◌, ℕ, List, [], ◌∷◌, Some, None}
use Rattle.asn1_types.specs.Elements.{integer_of}
use Rattle.asn1_types.specs.declared.oids.TheConstants as identifiers
use Rattle.cms_types.specs.SignedDataElements.{SignedDataElements}
use Rattle.cms_types.specs.SignerElements.{SignerElements}
use Rattle.der_core.specs.Elements.{set, octet_string}
use Rattle.authenticode_core.specs.Asn1.{context}
use Rattle.authenticode_core.specs.PlainForm.{PlainParts, SignerParts, algorithm, plain_attributes, plain_certificate, plain_content_info}
use Rattle.authenticode_core.specs.PlainForm.{image_data, plain_issuer_and_serial_number, plain_message, plain_signer_info}
use Rattle.key_core.specs.Verifying.{Judge}
use Rattle.sig_core.specs.declared.algorithm.SigAlg.TheVariants.{RsaSha256}
use Rattle.sig_core.specs.declared.scheme.Verdict.TheVariants.{Accept}
use Rattle.authenticode_core.specs.SignedFields.{HasMessageDigest, IndirectData}
use Rattle.authenticode_core.specs.SigningRules.{NamesDigest, digested_octets}
use Rattle.authenticode_core.specs.FormRules.{HasForm}
use Rattle.sig_core.specs.Digest.{digest_of}
use Rattle.sig_core.specs.declared.hash.HashAlgorithm.TheVariants.{SHA2_256}

-- the fields of the signer
abbrev pub plain_signer : SignerParts → SignerElements
plain_signer s = record {
  version = integer_of (1 ∷ []);
  sid = plain_issuer_and_serial_number s.issuer s.serial;
  digest_algorithm = algorithm identifiers.SHA256.now;
  signed_attrs = Some (context 0 (plain_attributes s.message_digest));
  signature_algorithm = algorithm identifiers.RSA_ENCRYPTION.now;
  signature = octet_string s.signature;
  unsigned_attrs = None;
}

-- the fields of the signed data
abbrev pub plain_elements : PlainParts → SignedDataElements
plain_elements p = record {
  version = integer_of (1 ∷ []);
  digest_algorithms = set (algorithm identifiers.SHA256.now ∷ []);
  content_info = plain_content_info p.file_hash;
  certificates = Some (context 0 (plain_certificate p.certificate ∷ []));
  crls = Some (context 1 []);
  signers_infos = set (plain_signer_info p.signer ∷ []);
}

-- the content: a portable executable, and its digest
abbrev pub plain_data : List ℕ → IndirectData
plain_data file_hash =
    record { image = image_data; algorithm = algorithm identifiers.SHA256.now; digest = file_hash }

-- Signed data with these parts has the form, with their digest of the file, and its attributes have
-- the digest of the content.
pub record HasPlainFields (p : PlainParts) : Type 0 where
  pub form : HasForm (plain_elements p) (algorithm identifiers.SHA256.now) (plain_data p.file_hash)
      (plain_signer p.signer)
  pub named : NamesDigest (plain_signer p.signer).digest_algorithm SHA2_256
  pub bound : HasMessageDigest (plain_signer p.signer)
      (digest_of SHA2_256 (digested_octets (plain_data p.file_hash)))

-- When signed data of the plain form is accepted: the digest of the file is the expected one, and
-- the scheme accepts the signature over the attributes as a SET under the octets of the key.
pub record IsPlainlyAccepted (judge : Judge) (p : PlainParts) (file_hash : List ℕ) : Type 0 where
  pub digest : p.file_hash ≡ file_hash
  pub accepted : judge RsaSha256 p.certificate.tbs.key (plain_message p) p.signer.signature ≡ Accept
