use Rattle.xtest_readme.proofs.citing.check_by_shared_table.Goals as goal

pub returns : goal.returns
returns c = λ judge has.
    (c.shared_tables_decide.ensures.answer judge c.args.policy.now c.args.file.now c.args.table.now c.check_wincert.result has).1 c.check_wincert.ensures.answer
