use Rattle.std.proofs.Common.{ℕ, List, [], ◌∷◌, Err, inl, refl, sym, ap, subst, ◌∙◌}
use Rattle.std.proofs.lemmas.Result.{err_from_is_err_and}
use Rattle.std.specs.Prelude.{vec_items}
use Rattle.der_core.specs.Rules.{IsFirstBroken}
use Rattle.der_core.proofs.RuleLists.{broken_before, none_broken, one_broken}
use Rattle.sig_core.specs.declared.algorithm.SigAlg.TheVariants as algs
use Rattle.key_core.specs.PrivatePkcs1.{IsPkcs1OfPrivate}
use Rattle.key_core.specs.Signing.{FitsSecret, UnwritableSecret, Unsigned, secret_rules}
use Rattle.key_core.specs.declared.signature_algorithm.SignatureAlgorithm.{SignatureAlgorithm}
use Rattle.key_core.specs.declared.signature_algorithm.SignatureAlgorithm.TheVariants.{RsaPkcs1v15, Ecdsa, Ed25519}
use Rattle.key_core.proofs.Signings.{secret_met, secret_one, made_accepts, made_by, made_of}
use Rattle.key_core.proofs.signature_algorithm.SignatureAlgorithm.sign.Goals as goal

pub returns-in_err-alg-in-Ecdsa-clause-refused : goal.returns-in_err-alg-in-Ecdsa-clause-refused
returns-in_err-alg-in-Ecdsa-clause-refused g c = λ e broken.
    let p = err_from_is_err_and c.from_residual-in_err-alg-in-Ecdsa.result c.from_residual-in_err-alg-in-Ecdsa.ensures.1 in
    let there = subst (λ (a : SignatureAlgorithm). IsFirstBroken (secret_rules a c.args.private_key.now) e) c.in-Ecdsa.is broken in
    p.1 ∙ ap Err (p.2 ∙ one_broken (secret_rules (Ecdsa c.in-Ecdsa.hash) c.args.private_key.now) (secret_one (Ecdsa c.in-Ecdsa.hash) c.args.private_key.now)
    c.in_err-alg-in-Ecdsa.field-0.0 e c.in_err-alg-in-Ecdsa.ensures there)

pub returns-in_err-secret-in-Ed25519-clause-signed : goal.returns-in_err-secret-in-Ed25519-clause-signed
returns-in_err-secret-in-Ed25519-clause-signed g c =
    let p = err_from_is_err_and c.from_residual-in_err-secret-in-Ed25519.result c.from_residual-in_err-secret-in-Ed25519.ensures.1 in
    rw (p.1, p.2, c.in-Ed25519.is)
    (inl (broken_before (secret_rules Ed25519 c.args.private_key.now) (UnwritableSecret c.args.private_key.now ∷ Unsigned (g.S.Scheme.signs c.args.scheme.now)
    Ed25519 c.args.private_key.now c.args.msg.now ∷ []) c.in_err-secret-in-Ed25519.field-0.0 c.in_err-secret-in-Ed25519.ensures))

pub returns-in_ok-alg-in-Ecdsa-clause-accepted : goal.returns-in_ok-alg-in-Ecdsa-clause-accepted
returns-in_ok-alg-in-Ecdsa-clause-accepted g c =
    made_accepts vec_items (g.S.Scheme.judge c.args.scheme.now) (g.S.Scheme.pair c.args.scheme.now) c.args.self (Ecdsa c.in-Ecdsa.hash)
    c.in-Ecdsa.is c.args.private_key.now c.in_ok-alg-in-Ecdsa.alg c.in_ok-alg-in-Ecdsa.secret.now c.args.msg.now c.in_ok-alg-in-Ecdsa.ensures c.made.result
    c.made.ensures.accepted

pub returns-in_ok-secret-in-Ed25519-clause-accepted : goal.returns-in_ok-secret-in-Ed25519-clause-accepted
returns-in_ok-secret-in-Ed25519-clause-accepted g c =
    made_accepts vec_items (g.S.Scheme.judge c.args.scheme.now) (g.S.Scheme.pair c.args.scheme.now)
    c.args.self Ed25519 c.in-Ed25519.is c.args.private_key.now algs.Ed25519 c.in_ok-secret-in-Ed25519.secret.now c.args.msg.now
    (refl, c.in_ok-secret-in-Ed25519.ensures) c.made-in-Ed25519.result c.made-in-Ed25519.ensures.accepted

pub returns-in_ok-secret-in-RsaPkcs1v15-clause-accepted : goal.returns-in_ok-secret-in-RsaPkcs1v15-clause-accepted
returns-in_ok-secret-in-RsaPkcs1v15-clause-accepted g c =
    let secret = subst (λ (s : List ℕ). IsPkcs1OfPrivate c.args.private_key.now.info.private_key s) (sym c.deref.ensures.value)
    c.in_ok-secret-in-RsaPkcs1v15.ensures.answer in
    made_accepts vec_items (g.S.Scheme.judge c.args.scheme.now) (g.S.Scheme.pair c.args.scheme.now) c.args.self (RsaPkcs1v15 c.in-RsaPkcs1v15.hash)
    c.in-RsaPkcs1v15.is c.args.private_key.now c.rsa_alg.result c.deref.result.now c.args.msg.now (c.rsa_alg.ensures, secret)
    c.made-signature.result c.made-signature.ensures.accepted

pub returns-in_ok-alg-in-Ecdsa-clause-signed : goal.returns-in_ok-alg-in-Ecdsa-clause-signed
returns-in_ok-alg-in-Ecdsa-clause-signed g c =
    made_by (g.S.Scheme.signs c.args.scheme.now) c.args.self (Ecdsa c.in-Ecdsa.hash) c.in-Ecdsa.is c.args.private_key.now c.args.msg.now
    c.in_ok-alg-in-Ecdsa.alg c.in_ok-alg-in-Ecdsa.secret.now c.in_ok-alg-in-Ecdsa.ensures c.made.result c.made.ensures.signed

pub returns-in_ok-alg-in-Ecdsa-clause-refused : goal.returns-in_ok-alg-in-Ecdsa-clause-refused
returns-in_ok-alg-in-Ecdsa-clause-refused g c = λ e broken.
    let there = subst (λ (a : SignatureAlgorithm). IsFirstBroken (secret_rules a c.args.private_key.now) e) c.in-Ecdsa.is broken in
    absurd (none_broken (secret_rules (Ecdsa c.in-Ecdsa.hash) c.args.private_key.now)
    (secret_met (Ecdsa c.in-Ecdsa.hash) c.args.private_key.now c.in_ok-alg-in-Ecdsa.alg c.in_ok-alg-in-Ecdsa.secret.now c.in_ok-alg-in-Ecdsa.ensures) e there)

pub returns-in_ok-secret-in-Ed25519-clause-signed : goal.returns-in_ok-secret-in-Ed25519-clause-signed
returns-in_ok-secret-in-Ed25519-clause-signed g c =
    let fits = subst (λ (a : SignatureAlgorithm). FitsSecret a c.args.private_key.now algs.Ed25519 c.in_ok-secret-in-Ed25519.secret.now) (sym c.in-Ed25519.is)
    (refl, c.in_ok-secret-in-Ed25519.ensures) in
    made_of (g.S.Scheme.signs c.args.scheme.now) c.args.self c.args.private_key.now c.args.msg.now algs.Ed25519 c.in_ok-secret-in-Ed25519.secret.now fits
    c.made-in-Ed25519.result c.made-in-Ed25519.ensures.signed

pub returns-in_ok-secret-in-Ed25519-clause-refused : goal.returns-in_ok-secret-in-Ed25519-clause-refused
returns-in_ok-secret-in-Ed25519-clause-refused g c = λ e broken.
    let there = subst (λ (a : SignatureAlgorithm). IsFirstBroken (secret_rules a c.args.private_key.now) e) c.in-Ed25519.is broken in
    absurd (none_broken (secret_rules Ed25519 c.args.private_key.now)
    (secret_met Ed25519 c.args.private_key.now algs.Ed25519 c.in_ok-secret-in-Ed25519.secret.now (refl, c.in_ok-secret-in-Ed25519.ensures)) e there)

pub returns-in_ok-secret-in-RsaPkcs1v15-clause-signed : goal.returns-in_ok-secret-in-RsaPkcs1v15-clause-signed
returns-in_ok-secret-in-RsaPkcs1v15-clause-signed g c =
    let secret = subst (λ (s : List ℕ). IsPkcs1OfPrivate c.args.private_key.now.info.private_key s) (sym c.deref.ensures.value)
    c.in_ok-secret-in-RsaPkcs1v15.ensures.answer in
    made_by (g.S.Scheme.signs c.args.scheme.now) c.args.self (RsaPkcs1v15 c.in-RsaPkcs1v15.hash) c.in-RsaPkcs1v15.is c.args.private_key.now c.args.msg.now
    c.rsa_alg.result c.deref.result.now (c.rsa_alg.ensures, secret) c.made-signature.result c.made-signature.ensures.signed

pub returns-in_ok-secret-in-RsaPkcs1v15-clause-refused : goal.returns-in_ok-secret-in-RsaPkcs1v15-clause-refused
returns-in_ok-secret-in-RsaPkcs1v15-clause-refused g c = λ e broken.
    let secret = subst (λ (s : List ℕ). IsPkcs1OfPrivate c.args.private_key.now.info.private_key s) (sym c.deref.ensures.value)
    c.in_ok-secret-in-RsaPkcs1v15.ensures.answer in
    let there = subst (λ (a : SignatureAlgorithm). IsFirstBroken (secret_rules a c.args.private_key.now) e) c.in-RsaPkcs1v15.is broken in
    absurd (none_broken (secret_rules (RsaPkcs1v15 c.in-RsaPkcs1v15.hash) c.args.private_key.now)
    (secret_met (RsaPkcs1v15 c.in-RsaPkcs1v15.hash) c.args.private_key.now c.rsa_alg.result c.deref.result.now (c.rsa_alg.ensures, secret)) e there)

pub returns-in_err-alg-in-Ecdsa-clause-signed : goal.returns-in_err-alg-in-Ecdsa-clause-signed
returns-in_err-alg-in-Ecdsa-clause-signed g c =
    let p = err_from_is_err_and c.from_residual-in_err-alg-in-Ecdsa.result c.from_residual-in_err-alg-in-Ecdsa.ensures.1 in
    rw (p.1, p.2, c.in-Ecdsa.is) (inl (broken_before (secret_rules (Ecdsa c.in-Ecdsa.hash) c.args.private_key.now)
    (UnwritableSecret c.args.private_key.now ∷ Unsigned (g.S.Scheme.signs c.args.scheme.now) (Ecdsa c.in-Ecdsa.hash) c.args.private_key.now c.args.msg.now ∷ [])
    c.in_err-alg-in-Ecdsa.field-0.0 c.in_err-alg-in-Ecdsa.ensures))

pub returns-in_err-secret-in-Ed25519-clause-refused : goal.returns-in_err-secret-in-Ed25519-clause-refused
returns-in_err-secret-in-Ed25519-clause-refused g c = λ e broken.
    let p = err_from_is_err_and c.from_residual-in_err-secret-in-Ed25519.result c.from_residual-in_err-secret-in-Ed25519.ensures.1 in
    let there = subst (λ (a : SignatureAlgorithm). IsFirstBroken (secret_rules a c.args.private_key.now) e) c.in-Ed25519.is broken in
    p.1 ∙ ap Err (p.2 ∙ one_broken (secret_rules Ed25519 c.args.private_key.now) (secret_one Ed25519 c.args.private_key.now)
    c.in_err-secret-in-Ed25519.field-0.0 e c.in_err-secret-in-Ed25519.ensures there)
