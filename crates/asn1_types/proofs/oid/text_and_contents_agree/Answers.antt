use Rattle.std.proofs.Common.{sym, ap, ◌∙◌}
use Rattle.asn1_types.specs.ObjectIdentifier.{contents_of, dotted}
use Rattle.asn1_types.specs.Facts.OneIdentifier.{contents_once}
use Rattle.asn1_types.proofs.Dotted.{dotted_once}
use Rattle.asn1_types.proofs.oid.text_and_contents_agree.Goals as goal

pub returns : goal.returns
returns c =
    let a = c.args.a.now.formed in
    let b = c.args.b.now.formed in (
      λ texts. a.spelled ∙ ap contents_of (dotted_once a.arcs b.arcs a.are_arcs b.are_arcs texts) ∙ sym b.spelled,
      λ octets. ap dotted (contents_once a.arcs b.arcs a.are_arcs b.are_arcs (sym a.spelled ∙ octets ∙ b.spelled)),
    )
