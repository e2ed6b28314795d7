-- CertificationRequestInfo ::= SEQUENCE { version INTEGER { v1(0) }, subject Name, subjectPKInfo
-- SubjectPublicKeyInfo, attributes [0] IMPLICIT SET OF Attribute } (RFC 2986 4.1), by the elements
-- of its fields.
use Rattle.std.specs.Prelude.{[], ◌∷◌, Option, option_to_list}
use Rattle.asn1_types.specs.Elements.{integer_of}
use Rattle.der_core.specs.DerElement.{DerElement}
use Rattle.der_core.specs.Elements.{sequence}

-- version 1, the number 0
abbrev pub request_version : DerElement
request_version = integer_of (0 ∷ [])

-- the element around those of the fields. The attributes may be absent here.
abbrev pub request_info_of : DerElement → DerElement → Option DerElement → DerElement
request_info_of subject key attributes =
    sequence (request_version ∷ subject ∷ key ∷ option_to_list attributes)
