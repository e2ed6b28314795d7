use Rattle.signature_questions.proofs.Listing.{are_listed, are_listed_of_chain}
use Rattle.signature_questions.proofs.laws.questions_are_listed.Goals as goal

pub returns-clause-signature : goal.returns-clause-signature
returns-clause-signature c = λ f qs are q. are_listed f qs are q

pub returns-clause-chain : goal.returns-clause-chain
returns-clause-chain c = λ checked parents qs are q. are_listed_of_chain checked parents qs are q
