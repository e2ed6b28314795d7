use Rattle.signature_questions.proofs.Admitted.{signed_by}
use Rattle.signature_questions.proofs.Chains.{chain_accepted, chain_refused, verified}
use Rattle.signature_questions.proofs.laws.questions_decide_chains.Goals as goal

pub returns-clause-accepted : goal.returns-clause-accepted
returns-clause-accepted c = λ a b checks checked parents admits h. chain_accepted a b checks checked parents admits h

pub returns-clause-refused : goal.returns-clause-refused
returns-clause-refused c = λ a b checks checked parents e agree h. chain_refused a b checks checked parents e agree h

pub returns-clause-verified : goal.returns-clause-verified
returns-clause-verified c = λ a b checks checked given result agree h. verified a b checks checked given result agree h

pub returns-clause-signed : goal.returns-clause-signed
returns-clause-signed c = λ a b parent child admits h. signed_by a b parent child admits h
