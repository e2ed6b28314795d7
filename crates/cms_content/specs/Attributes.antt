-- The attributes of an entry of a trust list, by their kinds (Microsoft, wincrypt.h).
use Rattle.std.specs.Prelude.{◌≡◌, ℕ, List, ◌∷◌}
use Rattle.cms_content.specs.CtlValues.{kind_of_ctl}
use Rattle.cms_content.specs.declared.ctl_attribute.CTLEntryAttribute.{CTLEntryAttribute}
use Rattle.cms_content.specs.declared.ctl_entry.CTLEntry.{CTLEntry}
use Rattle.cms_content.specs.declared.ctl_kind.CtlKind.{CtlKind}
use Rattle.cms_content.specs.declared.ctl_values.CTLEntryAttributeValues.{CTLEntryAttributeValues}
use Rattle.cms_content.specs.declared.ctl_values.CTLEntryAttributeValues.TheVariants as values
use Rattle.cms_content.specs.declared.held_purposes.HeldPurposes.{HeldPurposes}
use Rattle.cms_content.specs.First.{HoldsOfSome, IsFirst}

-- the attribute is of the kind
abbrev pub IsOfKind : CtlKind → CTLEntryAttribute → Type 0
IsOfKind kind attribute = kind_of_ctl attribute.value ≡ kind

-- the entry's first attribute of its kind has these values
abbrev pub HasFirst : CTLEntry → CTLEntryAttributeValues → Type 0
HasFirst entry vs =
    (attribute : CTLEntryAttribute) × IsFirst (IsOfKind (kind_of_ctl vs)) entry.attributes attribute
    × (attribute.value ≡ vs)

-- from when on the subject isn't trusted: CERT_DISALLOWED_FILETIME, 1.3.6.1.4.1.311.10.11.104
abbrev pub HasEnds : CTLEntry → List (List ℕ) → Type 0
HasEnds entry times = HasFirst entry (values.CertDisallowedFileTimePropId times)

-- from when on it is trusted: CERT_NOT_BEFORE_FILETIME, 1.3.6.1.4.1.311.10.11.126
abbrev pub HasBegins : CTLEntry → List (List ℕ) → Type 0
HasBegins entry times = HasFirst entry (values.UnknownReservedPropId126 times)

-- to which extended key usages that applies: CERT_NOT_BEFORE_ENHKEY_USAGE,
-- 1.3.6.1.4.1.311.10.11.127
abbrev pub HasUsages : CTLEntry → List HeldPurposes → Type 0
HasUsages entry usages = HasFirst entry (values.UnknownReservedPropId127 usages)

-- the attribute is the MD5 of a name, CERT_SUBJECT_NAME_MD5_HASH, 1.3.6.1.4.1.311.10.11.29, and its
-- first value is this digest
abbrev pub IsDigest : List ℕ → CTLEntryAttribute → Type 0
IsDigest digest attribute =
    (others : List (List ℕ))
    × (attribute.value ≡ values.CertSubjectNameMd5HashPropId (digest ∷ others))

-- some attribute of the entry is this digest of a name
abbrev pub HasDigest : List ℕ → CTLEntry → Type 0
HasDigest digest entry = HoldsOfSome (IsDigest digest) entry.attributes
