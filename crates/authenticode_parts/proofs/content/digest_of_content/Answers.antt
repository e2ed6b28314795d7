use Rattle.std.proofs.Common.{◌≡◌, ap, sym, ◌∙◌}
use Rattle.der_core.specs.Facts.Owned.{same_encoded}
use Rattle.der_core.specs.Borrowed.{contents_octets}
use Rattle.cms_content.specs.IndirectData.{indirect_data_content}
use Rattle.sig_core.specs.Digest.{digest_of}
use Rattle.authenticode_parts.proofs.content.digest_of_content.Goals as goal

pub unreachable-requires : goal.unreachable-requires
unreachable-requires c =
    c.in-None.ensures (indirect_data_content c.args.indirect.now) (c.in_ok-octets.ensures.1, c.deref.ensures.value ∙ c.in_ok-octets.ensures.0)

pub returns : goal.returns
returns c =
    let elem = c.in-Some.elem in
    let same : elem.is.0 ≡ indirect_data_content c.args.indirect.now =
    same_encoded elem.is.0 (indirect_data_content c.args.indirect.now) elem.is.1.0 c.in_ok-octets.ensures.1
    (sym c.in-Some.ensures.1 ∙ c.deref.ensures.value ∙ c.in_ok-octets.ensures.0) in
    (c.in_ok-digest-in-Some.ensures.digest ∙ ap (digest_of c.args.hash) (elem.is.1.3 ∙ ap contents_octets same), c.in_ok-octets.ensures.1)
