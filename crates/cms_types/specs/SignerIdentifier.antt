-- The identifier of a signer's certificate (RFC 5652 5.3, 10.2.4).
use Rattle.std.specs.Prelude.{[], ◌∷◌}
use Rattle.der_core.specs.DerElement.{DerElement, Primitive}
use Rattle.der_core.specs.Elements.{sequence}
use Rattle.asn1_types.specs.Elements.{integer}
use Rattle.name_types.specs.Name.{name}
use Rattle.cms_types.specs.declared.signer_info.identifier.SignerIdentifier.{SignerIdentifier}
use Rattle.cms_types.specs.declared.signer_info.identifier.SignerIdentifier.TheVariants as named
use Rattle.cms_types.specs.declared.signer_info.issuer_and_serial.IssuerAndSerialNumber.{IssuerAndSerialNumber}

-- IssuerAndSerialNumber ::= SEQUENCE { issuer Name, serialNumber CertificateSerialNumber },
-- CertificateSerialNumber ::= INTEGER
abbrev pub issuer_and_serial_number : IssuerAndSerialNumber → DerElement
issuer_and_serial_number value = sequence (name value.issuer ∷ integer value.serial_number ∷ [])

-- SignerIdentifier ::= CHOICE { issuerAndSerialNumber IssuerAndSerialNumber, subjectKeyIdentifier
-- [0] IMPLICIT SubjectKeyIdentifier },
-- SubjectKeyIdentifier ::= OCTET STRING
abbrev pub signer_identifier : SignerIdentifier → DerElement
signer_identifier (named.IssuerAndSerialNumber value) = issuer_and_serial_number value
signer_identifier (named.SubjectKeyIdentifier octets) = Primitive 0x80 octets
