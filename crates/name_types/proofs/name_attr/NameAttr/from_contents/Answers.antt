use Rattle.std.proofs.Common.{rules, ◌≡◌, ◌∙◌, ◌<◌, ap, arith, sym, Some}
use Rattle.asn1_types.specs.ObjectIdentifier.{contents_of}
use Rattle.name_types.specs.NameAttr.{attribute_arcs}
use Rattle.name_types.proofs.AttributeTypes.{place, place-below, get_or-place, types_by_contents}
use Rattle.name_types.proofs.name_attr.NameAttr.from_contents.Goals as goal

pub returns-then-eq-clause-named : goal.returns-then-eq-clause-named
returns-then-eq-clause-named c attr e =
    let same : c.oid_contents.result.now ≡ c.args.contents.now = search rules in
    ap Some (types_by_contents _ attr (sym c.oid_contents.ensures ∙ same ∙ sym e))

pub returns-clause-named : goal.returns-clause-named
returns-clause-named c attr e =
    let below = place-below attr in
    let within : place attr < c.loop-attr.attr-index = omega (arith, below) in
    absurd (c.loop-attr.invariant (place attr) attr within (ap (λ a. contents_of (attribute_arcs a)) (get_or-place attr attr) ∙ e))
