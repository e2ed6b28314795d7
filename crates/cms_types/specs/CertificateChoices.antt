-- CertificateChoices ::= CHOICE { certificate Certificate, extendedCertificate [0] IMPLICIT
-- ExtendedCertificate, v1AttrCert [1] IMPLICIT AttributeCertificateV1, v2AttrCert [2] IMPLICIT
-- AttributeCertificateV2, other [3] IMPLICIT OtherCertificateFormat } (RFC 5652 10.2.2): any
-- element, classified by its tag
use Rattle.der_core.specs.DerElement.{DerElement}
use Rattle.cms_types.specs.declared.signed_data.certificate_choices.CertificateChoices.{CertificateChoices}
use Rattle.cms_types.specs.declared.signed_data.certificate_choices.CertificateChoices.TheVariants as choices

-- the element of a member of the certificates
abbrev pub certificate_choice : CertificateChoices → DerElement
certificate_choice (choices.Certificate certificate) = certificate.element.element
certificate_choice (choices.Other other) = other.element.element
