use Rattle.std.proofs.Common.{◌≡◌, Option, Some, None, sym, ap, ◌∙◌, Bor, List, ℕ}
use Rattle.asn1_types.specs.Values.{identifier_contents}
use Rattle.key_core.specs.EdAlgorithm.{ed_identifier}
use Rattle.key_core.specs.declared.ed_algorithm.EdAlgorithm.{EdAlgorithm}
use Rattle.key_core.proofs.Signings.{ed_sized, ed_unknown}
use Rattle.key_core.proofs.signature_algorithm.signing.ed25519_secret.Goals as goal

not_there : (a : EdAlgorithm) → ◌≡◌ {A = Option EdAlgorithm} None (Some a) → ⊥
not_there a e = cc

pub returns-in-Some-Ed25519 : goal.returns-in-Some-Ed25519
returns-in-Some-Ed25519 c =
    let oid = c.as_bytes.ensures ∙ ap identifier_contents c.oid.ensures in
    ed_sized (λ (octets : Bor (List ℕ)). octets.now) c.args.private_key.now c.in-Some.bits c.in-Ed.secret c.in-Ed.is c.in-Some.is
    (sym oid ∙ sym c.in-Some-Ed25519.ensures.name ∙ ap ed_identifier c.in-Some-Ed25519.field-0-is) c.sized_secret.result
    (rw c.as_slice.ensures at c.sized_secret.ensures)

pub returns-in-None : goal.returns-in-None
returns-in-None c =
    let oid = c.as_bytes.ensures ∙ ap identifier_contents c.oid.ensures in
    ed_unknown c.args.private_key.now c.in-Some.bits c.in-Ed.secret c.in-Ed.is c.in-Some.is
    (λ algorithm of. not_there algorithm (c.in-None.ensures.named algorithm (sym of ∙ sym oid)))
