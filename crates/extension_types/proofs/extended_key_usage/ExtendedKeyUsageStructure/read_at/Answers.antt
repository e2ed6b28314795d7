use Rattle.std.proofs.lemmas.Result.{err_from_is_err_and}
use Rattle.asn1_types.specs.Elements.{object_identifier}
use Rattle.der_core.specs.Facts.Lists.{printed_list, list_printed, list_refused}
use Rattle.extension_types.specs.declared.extended_key_usage.ExtendedKeyUsage.{ExtendedKeyUsage}
use Rattle.extension_types.proofs.extended_key_usage.ExtendedKeyUsageStructure.read_at.Goals as goal

pub returns-in_err-read_list : goal.returns-in_err-read_list
returns-in_err-read_list c =
    let p = err_from_is_err_and c.from_residual.result c.from_residual.ensures.1 in
    rw (p.1, p.2)
    (list_refused _ _ _ (λ (usage : ExtendedKeyUsage) is. (usage.purposes, list_printed object_identifier 0x30 _ usage.purposes is)) c.in_err-read_list.ensures)

pub returns : goal.returns
returns c = printed_list object_identifier 0x30 _ _ c.in_ok-read_list.ensures
