use Rattle.pe_core.specs.Bound.{table_of}
use Rattle.pe_image.specs.PeAnswer.{policy_for}
use Rattle.xtest_readme.proofs.citing.questions_decide_programs.Goals as goal

pub returns : goal.returns
returns c = λ a b policy octets result agree h.
    c.tables_decide_programs.ensures a b policy octets result
    (λ hash answer is. c.questions_decide.ensures.answer a b (policy_for policy hash) (table_of octets) answer agree is) h
