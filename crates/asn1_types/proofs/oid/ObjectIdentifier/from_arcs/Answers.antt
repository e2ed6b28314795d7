use Rattle.std.proofs.Common.{◌∙◌}
use Rattle.asn1_types.proofs.Identifiers.{arcs_made}
use Rattle.asn1_types.proofs.oid.ObjectIdentifier.from_arcs.Goals as goal

pub invariant_of-result : goal.invariant_of-result
invariant_of-result c =
    let made = arcs_made c.args.arcs.now c.in_ok-contents.contents.items c.in-Some.root c.in-len2-up.len_at_least
    c.in-Some.ensures.0 c.in-Some.ensures.1 (λ i. (c.type_inv.arcs i).fits) c.in_ok-contents.ensures in record {
      formed = record {
        arcs = c.args.arcs.now;
        are_arcs = made.0;
        spelled = c.from.ensures ∙ made.1;
      };
    }

pub returns : goal.returns
returns c =
    let made = arcs_made c.args.arcs.now c.in_ok-contents.contents.items c.in-Some.root c.in-len2-up.len_at_least
    c.in-Some.ensures.0 c.in-Some.ensures.1 (λ i. (c.type_inv.arcs i).fits) c.in_ok-contents.ensures in
    (made.0, c.from.ensures ∙ made.1)
