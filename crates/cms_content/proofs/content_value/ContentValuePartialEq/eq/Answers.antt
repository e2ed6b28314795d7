use Rattle.std.proofs.Common.{◌≡◌, ◌↔◌, IsTrue, Bool}
use Rattle.std.specs.Prelude.{bytes_eq}
use Rattle.der_core.specs.Facts.Equality.{same_whole}
use Rattle.cms_content.specs.ContentValue.{content_octets}
use Rattle.cms_content.specs.declared.content_value.ContentValue.{ContentValue}
use Rattle.cms_content.specs.declared.content_value.ContentValue.TheVariants as contents
use Rattle.cms_content.proofs.Contents.{decided_by_octets}
use Rattle.cms_content.proofs.content_value.ContentValuePartialEq.eq.Goals as goal

by_octets : (a b : ContentValue) (t : Bool) → (IsTrue t ↔ (a ≡ b)) → t ≡ bytes_eq (content_octets a) (content_octets b)
by_octets = decided_by_octets

pub returns-in-Data-Data-clause-compared : goal.returns-in-Data-Data-clause-compared
returns-in-Data-Data-clause-compared c =
    by_octets _ _ _ (same_whole contents.Data (λ a b e. cc) _ _ _ _ _ c.in-Data-Data.is-0 c.in-Data-Data.is-1 c.eq-in-Data-Data.ensures.same)
