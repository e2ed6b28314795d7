use Rattle.std.proofs.Common.{◌≡◌, Option, Some, None, sym, ap, ◌∙◌, Bor, List, ℕ}
use Rattle.asn1_types.specs.Values.{identifier_contents}
use Rattle.key_types.specs.declared.key_info.SubjectPublicKeyInfo.{SubjectPublicKeyInfo}
use Rattle.key_core.specs.EdAlgorithm.{ed_identifier}
use Rattle.key_core.specs.declared.ed_algorithm.EdAlgorithm.{EdAlgorithm}
use Rattle.key_core.proofs.Verifications.{ed_sized, ed_unknown}
use Rattle.key_core.proofs.signature_algorithm.verifying.ed25519_bytes.Goals as goal

not_there : (a : EdAlgorithm) → ◌≡◌ {A = Option EdAlgorithm} None (Some a) → ⊥
not_there a e = cc

pub returns-in-Some-Ed25519 : goal.returns-in-Some-Ed25519
returns-in-Some-Ed25519 c =
    let is = ap (λ (i : SubjectPublicKeyInfo). i.subject_public_key) (sym c.as_spki-info.ensures) ∙ c.in-Ed.is in
    let oid = c.as_bytes.ensures ∙ ap identifier_contents (c.oid.ensures ∙ ap (λ (i : SubjectPublicKeyInfo). i.algorithm.oid) c.as_spki-info.ensures) in
    ed_sized (λ (bytes : Bor (List ℕ)). bytes.now) c.args.public_key.now.info c.in-Ed.bits is
    (sym oid ∙ sym c.in-Some-Ed25519.ensures.name
    ∙ ap ed_identifier c.in-Some-Ed25519.field-0-is) c.sized_key.result c.sized_key.ensures

pub returns-in-None : goal.returns-in-None
returns-in-None c =
    let is = ap (λ (i : SubjectPublicKeyInfo). i.subject_public_key) (sym c.as_spki-info.ensures) ∙ c.in-Ed.is in
    let oid = c.as_bytes.ensures ∙ ap identifier_contents (c.oid.ensures ∙ ap (λ (i : SubjectPublicKeyInfo). i.algorithm.oid) c.as_spki-info.ensures) in
    ed_unknown c.args.public_key.now.info c.in-Ed.bits is (λ algorithm of. not_there algorithm (c.in-None.ensures.named algorithm (sym of ∙ sym oid)))
