use Rattle.name_types.proofs.tagging.has_identifier.Goals as goal

pub returns-in-Some-clause-fits : goal.returns-in-Some-clause-fits
returns-in-Some-clause-fits c = λ w. (record { contents = c.in-Some.content.now; formed = c.is_content.ensures.formed.0 w }, c.in-Some.ensures)
