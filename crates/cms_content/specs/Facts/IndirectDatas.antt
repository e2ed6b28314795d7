-- What Authenticode signs: different contents have different elements, each well formed.
use Rattle.std.proofs.Common.{◌≡◌, [], refl, arith}
use Rattle.der_core.specs.Structure.{IsGrammar}
use Rattle.der_core.specs.Facts.Grammars.{printed}
use Rattle.cms_content.specs.DigestInfo.{digest_info}
use Rattle.cms_content.specs.SpcAttribute.{spc_attribute}
use Rattle.cms_content.specs.IndirectData.{indirect_data_content}
use Rattle.cms_content.specs.Facts.DigestInfos.{digest_infos}
use Rattle.cms_content.specs.Facts.SpcAttributes.{spc_attributes}
use Rattle.cms_content.specs.declared.indirect_data.SpcIndirectDataContent.{SpcIndirectDataContent}

contents_once : (a b : SpcIndirectDataContent) → indirect_data_content a ≡ indirect_data_content b → a ≡ b
contents_once a b e =
    let same_image : spc_attribute a.image ≡ spc_attribute b.image = cc in
    let same_digest : digest_info a.message_digest ≡ digest_info b.message_digest = cc in
    let image : a.image ≡ b.image = spc_attributes.once (spc_attribute a.image) a.image b.image refl same_image in
    let message_digest : a.message_digest ≡ b.message_digest =
    digest_infos.once (digest_info a.message_digest) a.message_digest b.message_digest refl same_digest in
    λ i. record { image = image i; message_digest = message_digest i }

pub indirect_data_contents : IsGrammar (λ element content. element ≡ indirect_data_content content) indirect_data_content (λ content. [])
indirect_data_contents = printed indirect_data_content contents_once
    (λ content. ((omega arith, omega arith, omega arith), refl, (spc_attributes.formed content.image, (digest_infos.formed content.message_digest, tt))))
