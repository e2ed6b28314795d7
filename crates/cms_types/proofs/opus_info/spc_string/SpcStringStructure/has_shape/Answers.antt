use Rattle.cms_types.proofs.opus_info.spc_string.SpcStringStructure.has_shape.Goals as goal

pub returns-in-Some-clause-fits : goal.returns-in-Some-clause-fits
returns-in-Some-clause-fits c = λ w. (record { octets = c.in-Some.content.now; whole = c.is_content.ensures.formed.0 w }, c.in-Some.ensures)
