use Rattle.std.proofs.Common.{refl, sym, ap, ◌∙◌}
use Rattle.std.specs.Prelude.{bytes_eq, false}
use Rattle.std.proofs.lemmas.Bool.{both_ways}
use Rattle.asn1_types.specs.Values.{integer_contents}
use Rattle.asn1_types.specs.declared.integer.IntegerAsn1.{IntegerAsn1}
use Rattle.authenticode_signature.proofs.Namings.{is_named_by, is_not_named}
use Rattle.authenticode_signature.proofs.signing_certificate.is_named.Goals as goal

pub returns-in_ok-issuer_name : goal.returns-in_ok-issuer_name
returns-in_ok-issuer_name c =
    is_named_by c.args.named.now c.args.certificate.now c.eq-then-eq.result c.from-issuer.result
    (sym c.serial_number.ensures ∙ c.eq.ensures.same.0 c.if-eq.true)
    (c.from-issuer.ensures ∙ c.in_ok-issuer_name.ensures) c.eq-then-eq.ensures.octets

pub returns-else-eq : goal.returns-else-eq
returns-else-eq c =
    let test =
    c.eq.ensures.value ∙ ap (λ (i : IntegerAsn1). bytes_eq (integer_contents i) (integer_contents c.args.named.now.serial_number)) c.serial_number.ensures in
    (λ w. absurd (both_ways false refl w), λ by. absurd (is_not_named c.args.named.now c.args.certificate.now c.eq.result test c.if-eq.false by))
