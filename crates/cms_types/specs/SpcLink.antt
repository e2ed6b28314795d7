-- SpcLink ::= CHOICE { url [0] IMPLICIT IA5STRING, moniker [1] IMPLICIT SpcSerializedObject, file
-- [2] EXPLICIT SpcString } (Windows Authenticode Portable Executable Signature Format): only the
-- first of the three, with any octets
use Rattle.der_core.specs.DerElement.{DerElement, Primitive}
use Rattle.cms_types.specs.declared.opus_info.spc_link.SpcLink.{SpcLink}

-- the element of a link, which is a url
abbrev pub spc_link : SpcLink → DerElement
spc_link link = Primitive 0x80 link.url
