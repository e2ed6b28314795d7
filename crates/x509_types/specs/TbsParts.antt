-- The fields of a TBSCertificate in three parts, which are read and copied one after another (RFC
-- 5280 4.1.2).
use Rattle.std.specs.Prelude.{◌≡◌}
use Rattle.asn1_types.specs.Values.{integer_contents}
use Rattle.name_types.specs.Name.{IsName}
use Rattle.key_types.specs.AlgorithmIdentifier.{algorithm_identifier}
use Rattle.key_types.specs.PublicKeyInfo.{IsPublicKeyInfo}
use Rattle.der_core.specs.Optional.{SpellsOption}
use Rattle.x509_types.specs.TbsElements.{TbsElements}
use Rattle.x509_types.specs.TbsCertificate.{IsVersion, IsExtensions}
use Rattle.x509_types.specs.Validity.{validity}
use Rattle.x509_types.specs.declared.certificate.tbs_certificate.TbsCertificate.{TbsCertificate}
use Rattle.x509_types.specs.declared.certificate.tbs_parts.IssuedBy.{IssuedBy}
use Rattle.x509_types.specs.declared.certificate.tbs_parts.IssuedTo.{IssuedTo}
use Rattle.x509_types.specs.declared.certificate.tbs_parts.AddedFields.{AddedFields}

-- Each element encodes its field of the first part.
pub record IsIssuedBy (f : TbsElements) (part : IssuedBy) : Type 0 where
  pub version : SpellsOption IsVersion f.version part.version
  pub serial_number : f.serial_number ≡ integer_contents part.serial_number
  pub signature : f.signature ≡ algorithm_identifier part.signature
  pub issuer : IsName f.issuer part.issuer

-- Each element encodes its field of the second part.
pub record IsIssuedTo (f : TbsElements) (part : IssuedTo) : Type 0 where
  pub validity : f.validity ≡ validity part.validity
  pub subject : IsName f.subject part.subject
  pub subject_public_key_info : IsPublicKeyInfo f.subject_public_key_info
      part.subject_public_key_info

-- Each element encodes its field of the third part.
pub record AreAdded (f : TbsElements) (part : AddedFields) : Type 0 where
  pub issuer_unique_id : f.issuer_unique_id ≡ part.issuer_unique_id
  pub subject_unique_id : f.subject_unique_id ≡ part.subject_unique_id
  pub extensions : SpellsOption IsExtensions f.extensions part.extensions

-- the first part of a TBSCertificate
abbrev pub issued_by : TbsCertificate → IssuedBy
issued_by tbs = record {
  version = tbs.version;
  serial_number = tbs.serial_number;
  signature = tbs.signature;
  issuer = tbs.issuer;
}

-- the second part of a TBSCertificate
abbrev pub issued_to : TbsCertificate → IssuedTo
issued_to tbs = record {
  validity = tbs.validity;
  subject = tbs.subject;
  subject_public_key_info = tbs.subject_public_key_info;
}

-- the third part of a TBSCertificate
abbrev pub added_fields : TbsCertificate → AddedFields
added_fields tbs = record {
  issuer_unique_id = tbs.issuer_unique_id;
  subject_unique_id = tbs.subject_unique_id;
  extensions = tbs.extensions;
}

-- the TBSCertificate with these parts
abbrev pub tbs_of_parts : IssuedBy → IssuedTo → AddedFields → TbsCertificate
tbs_of_parts by to added = record {
  version = by.version;
  serial_number = by.serial_number;
  signature = by.signature;
  issuer = by.issuer;
  validity = to.validity;
  subject = to.subject;
  subject_public_key_info = to.subject_public_key_info;
  issuer_unique_id = added.issuer_unique_id;
  subject_unique_id = added.subject_unique_id;
  extensions = added.extensions;
}
