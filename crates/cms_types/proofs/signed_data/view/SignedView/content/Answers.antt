use Rattle.std.proofs.Common.{sym, ap, ◌∙◌}
use Rattle.der_core.specs.DerElement.{Primitive}
use Rattle.cms_content.specs.ContentInfoElements.{content_info_of}
use Rattle.cms_types.proofs.Viewed.{data_content}
use Rattle.cms_types.proofs.signed_data.view.SignedView.content.Goals as goal

pub of_known-requires : goal.of_known-requires
of_known-requires c = data_content _ c.args.self.now.fits

pub returns : goal.returns
returns c =
    let content_type = Primitive 0x06 c.of_known.result.content_type.now in
    (content_type, c.of_known.ensures ∙ ap (content_info_of content_type) (sym c.content.ensures))
