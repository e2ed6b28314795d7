use Rattle.std.proofs.Common.{[], ◌∷◌}
use Rattle.std.proofs.lemmas.Result.{err_from_is_err_and}
use Rattle.authenticode_parts.specs.MadeContent.{program_attributes}
use Rattle.authenticode_parts.specs.MadeSignature.{attributes_element}
use Rattle.authenticode_parts.proofs.OwnedAttributes.{listed_or_refused}
use Rattle.authenticode_parts.proofs.attributes.attributes_of.Goals as goal
use Rattle.cms_types.specs.OpusInfo.{opus_info}
use Rattle.der_core.proofs.Inner.{refuses_before}

pub returns-in_err-info : goal.returns-in_err-info
returns-in_err-info c =
    let p = err_from_is_err_and c.from_residual.result c.from_residual.ensures.1 in
    rw (p.1, p.2) (refuses_before (opus_info c.args.opus.now ∷ []) (attributes_element (program_attributes (opus_info c.args.opus.now) c.args.digest.now) ∷ [])
    c.in_err-info.field-0.0 c.in_err-info.ensures)

pub returns : goal.returns
returns c =
    listed_or_refused c.in_ok-list.list c.in_ok-info.info.element (opus_info c.args.opus.now)
    c.args.digest.now c.keep_attributes.result c.in_ok-list.ensures.0 c.in_ok-list.ensures.1 c.in_ok-info.ensures.0 c.in_ok-info.ensures.1
    c.keep_attributes.ensures
