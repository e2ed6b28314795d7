-- The kinds of attributes, by OID.
use Rattle.std.specs.Prelude.{ℕ, List, if◌then◌else◌, bytes_eq}
use Rattle.asn1_types.specs.declared.oids.TheConstants.{CONTENT_TYPE, MESSAGE_DIGEST, EXTENSION_REQUEST}
use Rattle.x509_types.specs.declared.attribute.kind.AttributeKind.{AttributeKind}
use Rattle.x509_types.specs.declared.attribute.kind.AttributeKind.TheVariants as kinds

-- the kind that an OID identifies, by its contents octets (RFC 2985 5.3.1, 5.3.2, 5.4.2)
abbrev pub named_attribute : List ℕ → AttributeKind
named_attribute oid =
    if bytes_eq oid CONTENT_TYPE.now then kinds.ContentType
    else (if bytes_eq oid MESSAGE_DIGEST.now then kinds.MessageDigest
    else (if bytes_eq oid EXTENSION_REQUEST.now then kinds.ExtensionRequest
    else kinds.Other))

-- a number for each kind
abbrev pub attribute_number : AttributeKind → ℕ
attribute_number kinds.ContentType = 0
attribute_number kinds.MessageDigest = 1
attribute_number kinds.ExtensionRequest = 2
attribute_number kinds.Other = 3
