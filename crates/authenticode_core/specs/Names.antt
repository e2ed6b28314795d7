-- Names of issuers and subjects, compared (RFC 5280 4.1.2.4, 4.1.2.6).
use Rattle.authenticode_core.specs.SameElements.{IsSameElement}
use Rattle.der_core.specs.DerElement.{DerElement}
use Rattle.x509_types.specs.CertificateElements.{CertificateElements}

-- the certificate has this subject
abbrev pub HasSubject : DerElement → CertificateElements → Type 0
HasSubject subject c = IsSameElement c.tbs.subject subject
