-- SpcIndirectDataContent ::= SEQUENCE { data SpcAttributeTypeAndOptionalValue, messageDigest
-- DigestInfo } (Windows Authenticode Portable Executable Signature Format)
use Rattle.std.specs.Prelude.{[], ◌∷◌}
use Rattle.der_core.specs.DerElement.{DerElement}
use Rattle.der_core.specs.Elements.{sequence}
use Rattle.cms_content.specs.DigestInfo.{digest_info}
use Rattle.cms_content.specs.SpcAttribute.{spc_attribute}
use Rattle.cms_content.specs.declared.indirect_data.SpcIndirectDataContent.{SpcIndirectDataContent}

-- the element of what is signed instead of a file
abbrev pub indirect_data_content : SpcIndirectDataContent → DerElement
indirect_data_content content =
    sequence (spc_attribute content.image ∷ digest_info content.message_digest ∷ [])
