use Rattle.cms_types.proofs.opus_info.spc_link.SpcLinkStructure.has_shape.Goals as goal

pub returns-in-Some-clause-fits : goal.returns-in-Some-clause-fits
returns-in-Some-clause-fits c = λ w. (record { url = c.in-Some.field-0.now }, c.in-Some.ensures)
