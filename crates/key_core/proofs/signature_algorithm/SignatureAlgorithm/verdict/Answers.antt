use Rattle.std.proofs.Common.{inl, [], ◌∷◌, Err, ap, subst, ◌∙◌}
use Rattle.std.proofs.lemmas.Result.{err_from_is_err_and}
use Rattle.der_core.specs.Rules.{IsFirstBroken}
use Rattle.der_core.proofs.RuleLists.{broken_before, one_broken}
use Rattle.key_core.specs.Verifying.{key_rules, Unwritable}
use Rattle.key_core.specs.declared.signature_algorithm.SignatureAlgorithm.{SignatureAlgorithm}
use Rattle.key_core.specs.declared.signature_algorithm.SignatureAlgorithm.TheVariants.{Ecdsa, Ed25519}
use Rattle.key_core.proofs.Verifications.{key_one}
use Rattle.key_core.proofs.signature_algorithm.SignatureAlgorithm.verdict.Goals as goal

pub returns-in_err-key-in-Ed25519-clause-answer : goal.returns-in_err-key-in-Ed25519-clause-answer
returns-in_err-key-in-Ed25519-clause-answer g c =
    let p = err_from_is_err_and c.from_residual-in_err-key-in-Ed25519.result c.from_residual-in_err-key-in-Ed25519.ensures.1 in
    rw (p.1, p.2, c.in-Ed25519.is)
    (inl (broken_before (key_rules Ed25519 c.args.public_key.now.info)
    (Unwritable c.args.public_key.now.info ∷ []) c.in_err-key-in-Ed25519.field-0.0
    c.in_err-key-in-Ed25519.ensures))

pub returns-in_err-alg-in-Ecdsa-clause-answer : goal.returns-in_err-alg-in-Ecdsa-clause-answer
returns-in_err-alg-in-Ecdsa-clause-answer g c =
    let p = err_from_is_err_and c.from_residual-in_err-alg-in-Ecdsa.result c.from_residual-in_err-alg-in-Ecdsa.ensures.1 in
    rw (p.1, p.2, c.in-Ecdsa.is)
    (inl (broken_before (key_rules (Ecdsa c.in-Ecdsa.hash) c.args.public_key.now.info)
    (Unwritable c.args.public_key.now.info ∷ []) c.in_err-alg-in-Ecdsa.field-0.0
    c.in_err-alg-in-Ecdsa.ensures))

pub returns-in_err-alg-in-Ecdsa-clause-refused : goal.returns-in_err-alg-in-Ecdsa-clause-refused
returns-in_err-alg-in-Ecdsa-clause-refused g c = λ e broken.
    let p = err_from_is_err_and c.from_residual-in_err-alg-in-Ecdsa.result c.from_residual-in_err-alg-in-Ecdsa.ensures.1 in
    let there = subst (λ (a : SignatureAlgorithm). IsFirstBroken (key_rules a c.args.public_key.now.info) e) c.in-Ecdsa.is broken in
    p.1 ∙ ap Err (p.2 ∙ one_broken (key_rules (Ecdsa c.in-Ecdsa.hash) c.args.public_key.now.info)
    (key_one (Ecdsa c.in-Ecdsa.hash) c.args.public_key.now.info)
    c.in_err-alg-in-Ecdsa.field-0.0 e c.in_err-alg-in-Ecdsa.ensures there)

pub returns-in_err-key-in-Ed25519-clause-refused : goal.returns-in_err-key-in-Ed25519-clause-refused
returns-in_err-key-in-Ed25519-clause-refused g c = λ e broken.
    let p = err_from_is_err_and c.from_residual-in_err-key-in-Ed25519.result c.from_residual-in_err-key-in-Ed25519.ensures.1 in
    let there = subst (λ (a : SignatureAlgorithm). IsFirstBroken (key_rules a c.args.public_key.now.info) e) c.in-Ed25519.is broken in
    p.1 ∙ ap Err (p.2 ∙ one_broken (key_rules Ed25519 c.args.public_key.now.info)
    (key_one Ed25519 c.args.public_key.now.info) c.in_err-key-in-Ed25519.field-0.0 e
    c.in_err-key-in-Ed25519.ensures there)
