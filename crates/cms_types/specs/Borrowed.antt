-- The fields of signers and of signed data, borrowed.
use Rattle.der_core.specs.BorrowedOption.{at_option}
use Rattle.cms_types.specs.SignerElements.{SignerElements}
use Rattle.cms_types.specs.SignedDataElements.{SignedDataElements}
use Rattle.cms_types.specs.declared.signer_info.fields.SignerFields.{SignerFields}
use Rattle.cms_types.specs.declared.signed_data.fields.SignedDataFields.{SignedDataFields}

-- the borrowed elements of a signer
abbrev pub signer_at : SignerFields → SignerElements
signer_at f = record {
  version = f.version.is.0;
  sid = f.sid.is.0;
  digest_algorithm = f.digest_algorithm.is.0;
  signed_attrs = at_option f.signed_attrs;
  signature_algorithm = f.signature_algorithm.is.0;
  signature = f.signature.is.0;
  unsigned_attrs = at_option f.unsigned_attrs;
}

-- the borrowed elements of signed data
abbrev pub signed_data_at : SignedDataFields → SignedDataElements
signed_data_at f = record {
  version = f.version.is.0;
  digest_algorithms = f.digest_algorithms.is.0;
  content_info = f.content_info.is.0;
  certificates = at_option f.certificates;
  crls = at_option f.crls;
  signers_infos = f.signers_infos.is.0;
}
