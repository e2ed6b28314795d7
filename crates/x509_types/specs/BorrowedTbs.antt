-- The fields of a borrowed TBSCertificate.
use Rattle.std.specs.Option.{option_copied}
use Rattle.der_core.specs.BorrowedOption.{at_option}
use Rattle.x509_types.specs.TbsElements.{TbsElements}
use Rattle.x509_types.specs.declared.certificate.tbs_fields.TbsFields.{TbsFields}

-- the borrowed elements
abbrev pub elements_at : TbsFields → TbsElements
elements_at f = record {
  version = at_option f.version;
  serial_number = f.serial_number.now;
  signature = f.signature.is.0;
  issuer = f.issuer.is.0;
  validity = f.validity.is.0;
  subject = f.subject.is.0;
  subject_public_key_info = f.subject_public_key_info.is.0;
  issuer_unique_id = option_copied f.issuer_unique_id;
  subject_unique_id = option_copied f.subject_unique_id;
  extensions = at_option f.extensions;
}
