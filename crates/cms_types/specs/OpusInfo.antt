-- SpcSpOpusInfo ::= SEQUENCE { programName [0] EXPLICIT SpcString OPTIONAL, moreInfo [1] EXPLICIT
-- SpcLink OPTIONAL } (Windows Authenticode Portable Executable Signature Format)
use Rattle.std.specs.Prelude.{◌++◌, Option}
use Rattle.std.specs.Option.{option_map}
use Rattle.der_core.specs.DerElement.{DerElement}
use Rattle.der_core.specs.Elements.{sequence, optional_explicit}
use Rattle.cms_types.specs.SpcString.{spc_string}
use Rattle.cms_types.specs.SpcLink.{spc_link}
use Rattle.cms_types.specs.declared.opus_info.SpcSpOpusInfo.{SpcSpOpusInfo}

-- by the elements of its fields
abbrev pub opus_info_of : (program_name more_info : Option DerElement) → DerElement
opus_info_of program_name more_info =
    sequence (optional_explicit 0xA0 program_name ++ optional_explicit 0xA1 more_info)

-- the element of what is said about a program
abbrev pub opus_info : SpcSpOpusInfo → DerElement
opus_info info =
    opus_info_of (option_map spc_string info.program_name) (option_map spc_link info.more_info)
