use Rattle.program_frame.proofs.table_command.run_by_table.Goals as goal

pub returns : goal.returns
returns g c words is = c.run.ensures words (rw c.under.ensures is)
