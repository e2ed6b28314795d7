use Rattle.cms_types.proofs.signer_info.fields.expect_list.Goals as goal

pub returns-else-has_list : goal.returns-else-has_list
returns-else-has_list g c = λ fit. c.has_list.ensures.unfit c.if-has_list.false fit.0 fit.1
