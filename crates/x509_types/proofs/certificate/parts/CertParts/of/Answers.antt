use Rattle.std.proofs.Common.{◌≡◌, ℕ, List, ◌∷◌, refl, sym, ap, ◌∙◌}
use Rattle.der_core.specs.DerElement.{DerElement, Primitive}
use Rattle.x509_types.specs.CertificateFields.{unused_bits}
use Rattle.x509_types.proofs.Viewed.{around, three_parts, no_bits}
use Rattle.x509_types.proofs.certificate.parts.CertParts.of.Goals as goal

counted : (value : DerElement) (unused : ℕ) (octets : List ℕ) → value ≡ Primitive 0x03 (unused ∷ octets)
    → value ≡ Primitive 0x03 (unused_bits value ∷ octets)
counted value unused octets is = is ∙ ap (λ (e : DerElement). Primitive 0x03 (unused_bits e ∷ octets)) (sym is)

pub returns-in_err-fields : goal.returns-in_err-fields
returns-in_err-fields c = rw c.from_residual.ensures (λ f is. c.in_err-fields.ensures f.tbs (three_parts _ _ _ _ f c.in-Some.ensures is).0)

pub returns-in_err-contents : goal.returns-in_err-contents
returns-in_err-contents c = rw c.from_residual-in_err-contents.ensures (λ f is. c.in_err-contents.ensures _ (three_parts _ _ _ _ f c.in-Some.ensures is).2)

pub returns-in_err-_unused : goal.returns-in_err-_unused
returns-in_err-_unused c =
    rw c.from_residual-in_err-_unused.ensures
    (λ f is. no_bits _ _ f.unused f.signature c.in_err-_unused.ensures.cases c.in_ok-contents.ensures (three_parts _ _ _ _ f c.in-Some.ensures is).2)

pub invariant_of-result : goal.invariant_of-result
invariant_of-result c = record {
  signed = c.in_ok-fields.ensures;
  bits = counted _ _ _ (c.in_ok-contents.ensures ∙ ap (Primitive 0x03) c.in_ok-_unused.ensures.cases.0);
}

pub returns : goal.returns
returns c =
    let bits = counted _ _ _ (c.in_ok-contents.ensures ∙ ap (Primitive 0x03) c.in_ok-_unused.ensures.cases.0) in
    around _ c.in-Some.tbs.is.0 c.in-Some.algorithm.is.0 c.in-Some.value.is.0 _ c.in-Some.ensures c.in_ok-fields.ensures refl bits
