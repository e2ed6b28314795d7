use Rattle.signature_questions.proofs.borrowed_key.BorrowedKey.known_as.Goals as goal

pub returns-in-Ecdsa : goal.returns-in-Ecdsa
returns-in-Ecdsa c = λ key lends. rw c.in-Ecdsa.is (c.ecdsa.ensures key lends)

pub returns-in-Ed25519 : goal.returns-in-Ed25519
returns-in-Ed25519 c = λ key lends. rw c.in-Ed25519.is (c.ed25519.ensures key lends)
