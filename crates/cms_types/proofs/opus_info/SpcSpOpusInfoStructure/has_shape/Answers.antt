use Rattle.cms_types.proofs.OpusFields.{of_parts, parts_of}
use Rattle.cms_types.proofs.opus_info.SpcSpOpusInfoStructure.has_shape.Goals as goal

pub returns-then-has_option-clause-fits : goal.returns-then-has_option-clause-fits
returns-then-has_option-clause-fits c = λ w.
    let name = c.has_option.ensures.fits c.if-has_option.true in
    let link = c.has_option-then-has_option.ensures.fits w in
    of_parts _ _ _ c.in-Some.ensures name.0 name.1 link.0 link.1

pub returns-then-has_option-clause-unfit : goal.returns-then-has_option-clause-unfit
returns-then-has_option-clause-unfit c = λ no info is. c.has_option-then-has_option.ensures.unfit no info.more_info (parts_of _ _ _ c.in-Some.ensures info is).1

pub returns-else-has_option-clause-unfit : goal.returns-else-has_option-clause-unfit
returns-else-has_option-clause-unfit c =
    λ no info is. c.has_option.ensures.unfit c.if-has_option.false info.program_name (parts_of _ _ _ c.in-Some.ensures info is).0
