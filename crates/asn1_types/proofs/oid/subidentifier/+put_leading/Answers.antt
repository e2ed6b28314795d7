use Rattle.std.proofs.Common.{◌∷◌, [], ◌+◌, ◌%◌, ◌/◌, sym, ap, ◌∙◌, ◌++◌, append_assoc}
use Rattle.std.proofs.lemmas.Slice.{pushed}
use Rattle.asn1_types.specs.Subidentifier.{leading_octets}
use Rattle.asn1_types.specs.Facts.SubidentifierReading.{leading_step}
use Rattle.asn1_types.proofs.oid.subidentifier.+put_leading.Goals as goal

pub returns-in_ok-push : goal.returns-in_ok-push
returns-in_ok-push t c =
    let n = c.args.number in
    let old = c.args.octets.now.items in
    pushed ((128 + n % 128) ∷ []) c.in_ok-put_leading.ensures c.in_ok-push.was c.push.ensures.items
    ∙ append_assoc old (leading_octets (n / 128)) ((128 + n % 128) ∷ [])
    ∙ ap (λ octets. old ++ octets) (sym (leading_step n c.if-number-gt0.true))
