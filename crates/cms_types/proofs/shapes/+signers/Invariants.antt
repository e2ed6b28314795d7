use Rattle.std.proofs.Common.{◌↔◌, ◌≤◌, ◌+◌, ◌*◌, length}
use Rattle.der_core.specs.DerElement.{row, element_count, elements_count}
use Rattle.cms_types.specs.Signers.{AreSignerInfos, AreUnsignedAttributes, ArePkcs7s}
use Rattle.cms_types.proofs.shapes.+signers.Given as goal

abbrev pub decreases-is_signer_info : goal.decreases-is_signer_info
decreases-is_signer_info l = 2 * element_count l.elem.is.0

abbrev pub decreases-is_unsigned_attribute : goal.decreases-is_unsigned_attribute
decreases-is_unsigned_attribute l = 2 * element_count l.elem.is.0

abbrev pub decreases-is_signed_data : goal.decreases-is_signed_data
decreases-is_signed_data l = 2 * element_count l.elem.is.0

abbrev pub decreases-is_pkcs7 : goal.decreases-is_pkcs7
decreases-is_pkcs7 l = 2 * element_count l.elem.is.0

abbrev pub decreases-are_unsigned_attributes : goal.decreases-are_unsigned_attributes
decreases-are_unsigned_attributes l = 2 * elements_count (row l.kids.are.0) + 1

abbrev pub decreases-are_signer_infos : goal.decreases-are_signer_infos
decreases-are_signer_infos l = 2 * elements_count (row l.kids.are.0) + 1

abbrev pub decreases-are_pkcs7s : goal.decreases-are_pkcs7s
decreases-are_pkcs7s l = 2 * elements_count (row l.kids.are.0) + 1

abbrev pub invariant-are_unsigned_attributes-loop-kid : goal.invariant-are_unsigned_attributes-loop-kid
invariant-are_unsigned_attributes-loop-kid l =
    (elements_count (row l.kids.are.0) ≤ elements_count (row l.initial.kids.are.0))
    × (AreUnsignedAttributes l.kids.are.0 ↔ AreUnsignedAttributes l.initial.kids.are.0)

abbrev pub decreases-are_unsigned_attributes-loop-kid : goal.decreases-are_unsigned_attributes-loop-kid
decreases-are_unsigned_attributes-loop-kid l = length l.kids.are.0

abbrev pub invariant-are_signer_infos-loop-kid : goal.invariant-are_signer_infos-loop-kid
invariant-are_signer_infos-loop-kid l =
    (elements_count (row l.kids.are.0) ≤ elements_count (row l.initial.kids.are.0)) × (AreSignerInfos l.kids.are.0 ↔ AreSignerInfos l.initial.kids.are.0)

abbrev pub decreases-are_signer_infos-loop-kid : goal.decreases-are_signer_infos-loop-kid
decreases-are_signer_infos-loop-kid l = length l.kids.are.0

abbrev pub invariant-are_pkcs7s-loop-kid : goal.invariant-are_pkcs7s-loop-kid
invariant-are_pkcs7s-loop-kid l =
    (elements_count (row l.kids.are.0) ≤ elements_count (row l.initial.kids.are.0)) × (ArePkcs7s l.kids.are.0 ↔ ArePkcs7s l.initial.kids.are.0)

abbrev pub decreases-are_pkcs7s-loop-kid : goal.decreases-are_pkcs7s-loop-kid
decreases-are_pkcs7s-loop-kid l = length l.kids.are.0
