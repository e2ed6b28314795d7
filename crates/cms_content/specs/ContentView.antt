-- The view of a content with its type.
use Rattle.std.specs.Prelude.{◌≡◌}
use Rattle.der_core.specs.DerElement.{DerElement}
use Rattle.der_core.specs.BorrowedOption.{at_option}
use Rattle.cms_content.specs.ContentInfo.{content_info}
use Rattle.cms_content.specs.BorrowedContent.{lent_content}
use Rattle.cms_content.specs.declared.content_info.EncapsulatedContentInfo.{EncapsulatedContentInfo}
use Rattle.cms_content.specs.declared.content_view.ContentView.{ContentView}

-- The view is one of this element: it borrows its type and its content, and the element encodes a
-- value.
pub record IsContentView (element : DerElement) (view : ContentView) : Type 0 where
  pub is : element ≡ lent_content view.content_type.now (at_option view.content)
  pub value : EncapsulatedContentInfo
  pub spelled : element ≡ content_info value
