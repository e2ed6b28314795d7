use Rattle.signature_questions.proofs.Admitted.{trusted}
use Rattle.signature_questions.proofs.Agreed.{answered, data_answered}
use Rattle.signature_questions.proofs.laws.questions_decide.Goals as goal

pub returns-clause-trusted : goal.returns-clause-trusted
returns-clause-trusted c = λ a b policy f accepted admits h. trusted a b f admits policy accepted h

pub returns-clause-answer : goal.returns-clause-answer
returns-clause-answer c = λ a b policy octets result agree h. answered a b policy octets result agree h

pub returns-clause-one : goal.returns-clause-one
returns-clause-one c = λ a b policy octets result other agree h only. only result (answered a b policy octets result agree h)

pub returns-clause-signed_data : goal.returns-clause-signed_data
returns-clause-signed_data c = λ a b policy f result agree h. data_answered a b policy f result agree h
