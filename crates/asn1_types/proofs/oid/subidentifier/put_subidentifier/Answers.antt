use Rattle.std.proofs.Common.{◌∷◌, [], ◌%◌, ◌/◌, ◌∙◌, append_assoc}
use Rattle.std.proofs.lemmas.Slice.{pushed}
use Rattle.asn1_types.specs.Subidentifier.{leading_octets, subidentifier}
use Rattle.asn1_types.proofs.oid.subidentifier.put_subidentifier.Goals as goal

pub returns : goal.returns
unfolding subidentifier
returns c =
    let n = c.args.number in
    pushed (n % 128 ∷ []) c.in_ok-put_leading.ensures c.in_ok-push.was c.push.ensures.items
    ∙ append_assoc c.args.octets.now.items (leading_octets (n / 128)) (n % 128 ∷ [])
