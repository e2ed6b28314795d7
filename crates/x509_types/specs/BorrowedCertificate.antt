-- The fields of a borrowed Certificate.
use Rattle.x509_types.specs.CertificateElements.{CertificateElements}
use Rattle.x509_types.specs.CertificateFields.{unused_bits}
use Rattle.x509_types.specs.BorrowedTbs.{elements_at}
use Rattle.x509_types.specs.declared.certificate.parts.CertParts.{CertParts}

-- the borrowed elements: the fields of what is signed, the algorithm, and the signature's count of
-- unused bits and octets
abbrev pub lent_elements : CertParts → CertificateElements
lent_elements parts = record {
  tbs = elements_at parts.fields;
  algorithm = parts.algorithm.is.0;
  unused = unused_bits parts.value.is.0;
  signature = parts.signature.now;
}
