use Rattle.std.proofs.Common.{ℕ, List, sym, ap, ◌∙◌}
use Rattle.der_core.specs.DerElement.{Primitive}
use Rattle.der_core.specs.BorrowedOption.{at_option}
use Rattle.cms_content.specs.ContentInfoElements.{content_info_of}
use Rattle.cms_types.proofs.Viewed.{data_content}
use Rattle.cms_types.proofs.signed_data.view.SignedView.content_type.Goals as goal

pub of_known-requires : goal.of_known-requires
of_known-requires c = data_content _ c.args.self.now.fits

pub returns : goal.returns
returns c =
    let content = at_option c.of_known.result.content in
    (content, c.of_known.ensures ∙ ap (λ (octets : List ℕ). content_info_of (Primitive 0x06 octets) content) (sym c.content_type.ensures))
