-- SpcString ::= CHOICE { unicode [0] IMPLICIT BMPSTRING, ascii [1] IMPLICIT IA5STRING } (Windows
-- Authenticode Portable Executable Signature Format): only the first of the two
use Rattle.der_core.specs.DerElement.{DerElement, Primitive}
use Rattle.cms_types.specs.declared.opus_info.spc_string.SpcString.{SpcString}

-- the element of a string, which is a unicode one
abbrev pub spc_string : SpcString → DerElement
spc_string string = Primitive 0x80 string.octets
