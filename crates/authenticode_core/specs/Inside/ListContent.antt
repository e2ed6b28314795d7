-- The content of a trust list, for the function that finds its entries.
use Rattle.std.specs.Prelude.{◌≡◌, ◌≢◌, List}
use Rattle.cms_content.specs.ContentValue.{kind_of_content}
use Rattle.cms_content.specs.declared.content_kind.ContentKind.TheVariants as kinds
use Rattle.cms_content.specs.declared.content_value.ContentValue.{ContentValue}
use Rattle.cms_content.specs.declared.content_value.ContentValue.TheVariants as contents
use Rattle.cms_content.specs.declared.ctl.Ctl.{Ctl}
use Rattle.cms_content.specs.declared.ctl_entry.CTLEntry.{CTLEntry}

-- the content is a trust list with these entries
abbrev pub AreEntriesIn : ContentValue → List CTLEntry → Type 0
AreEntriesIn value entries =
    (content : Ctl) × (value ≡ contents.CertificateTrustList content)
    × (entries ≡ content.entries)

-- the content isn't a trust list
abbrev pub IsOtherContent : ContentValue → Type 0
IsOtherContent value = kind_of_content value ≢ kinds.CertificateTrustList
