use Rattle.signature_questions.proofs.Determined.{chains_once, datas_once}
use Rattle.signature_questions.proofs.OneList.{chain_once, questions_once}
use Rattle.signature_questions.proofs.laws.questions_are_determined.Goals as goal

pub returns-clause-signature : goal.returns-clause-signature
returns-clause-signature c = λ f qs rs are own. questions_once f qs rs are own

pub returns-clause-signature_octets : goal.returns-clause-signature_octets
returns-clause-signature_octets c = λ octets f g qs rs has there are own. datas_once octets f g qs rs has there are own

pub returns-clause-chain : goal.returns-clause-chain
returns-clause-chain c = λ checked parents qs rs are own. chain_once checked parents qs rs are own

pub returns-clause-chain_octets : goal.returns-clause-chain_octets
returns-clause-chain_octets c = λ a b above ahead qs rs same are own. chains_once a b above ahead qs rs same are own
