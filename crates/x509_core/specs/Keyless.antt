-- What a certificate is stored in: the subject's key, and the rest in two parts.
use Rattle.key_core.specs.Keys.{info_of}
use Rattle.key_core.specs.declared.public_key.PublicKey.{PublicKey}
use Rattle.x509_types.specs.declared.certificate.Certificate.{Certificate}
use Rattle.x509_core.specs.declared.keyless.Keyless.{Keyless}

-- the certificate with the key and the rest
abbrev pub joined : Keyless → PublicKey → Certificate
joined rest key = record {
  tbs_certificate = record {
    version = rest.issued.version;
    serial_number = rest.issued.serial_number;
    signature = rest.issued.signature;
    issuer = rest.issued.issuer;
    validity = rest.issued.validity;
    subject = rest.issued.subject;
    subject_public_key_info = info_of key;
    issuer_unique_id = rest.later.issuer_unique_id;
    subject_unique_id = rest.later.subject_unique_id;
    extensions = rest.later.extensions;
  };
  signature_algorithm = rest.later.signature_algorithm;
  signature_value = rest.later.signature_value;
}
