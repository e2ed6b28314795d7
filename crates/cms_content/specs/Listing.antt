-- When the name of a CA is listed at a time, and which refusal comes first otherwise (Microsoft,
-- wincrypt.h).
use Rattle.std.specs.Prelude.{◌≡◌, ◌⊎◌, ⊤, ℕ, ℤ, ◌<◌, ◌≤◌, ◌<ℤ◌, ◌≤ℤ◌, List, [], ◌∷◌, ◌++◌, length}
use Rattle.asn1_types.specs.Values.{identifier_contents}
use Rattle.asn1_types.specs.declared.oid.ObjectIdentifier.{ObjectIdentifier}
use Rattle.asn1_types.specs.declared.oids.TheConstants.{KP_CODE_SIGNING}
use Rattle.cms_content.specs.declared.ctl_entry.CTLEntry.{CTLEntry}
use Rattle.cms_content.specs.declared.held_purposes.HeldPurposes.{HeldPurposes}
use Rattle.der_core.specs.Rules.{Rule, IsFirstBroken}
use Rattle.md5.specs.Md5.{md5}
use Rattle.cms_content.specs.Attributes.{HasBegins, HasDigest, HasEnds, HasUsages}
use Rattle.cms_content.specs.FileTime.{seconds_of}
use Rattle.cms_content.specs.First.{HoldsOfNone, HoldsOfSome, IsFirst}
use Rattle.cms_content.specs.declared.listing.error.ListingError.{ListingError}
use Rattle.cms_content.specs.declared.listing.error.ListingError.TheVariants as errors

-- ---- what is listed

-- the first value is a time, and it is at least now
abbrev pub EndsLater : ℤ → List (List ℕ) → Type 0
EndsLater now times =
    (value : List ℕ) × (others : List (List ℕ)) × (times ≡ value ∷ others) × (8 ≤ length value)
    × (now ≤ℤ seconds_of value)

-- the extended key usage is code signing (RFC 5280 4.2.1.12)
abbrev pub IsCodeSigning : ObjectIdentifier → Type 0
IsCodeSigning purpose = identifier_contents purpose ≡ KP_CODE_SIGNING.now

-- one of the extended key usages is code signing
abbrev pub IsForCodeSigning : HeldPurposes → Type 0
IsForCodeSigning usage = HoldsOfSome IsCodeSigning usage.purposes

-- the not-before time doesn't apply to code signing: there are extended key usages, and it isn't
-- among those of the first value
abbrev pub IsForOthers : CTLEntry → Type 0
IsForOthers entry =
    (usage : HeldPurposes) × (others : List HeldPurposes) × HasUsages entry (usage ∷ others)
    × (IsForCodeSigning usage → ⊥)

-- the first value is a time, and it is at most now or doesn't apply to code signing
abbrev pub BeginsEarlier : CTLEntry → ℤ → List (List ℕ) → Type 0
BeginsEarlier entry now times =
    (value : List ℕ) × (others : List (List ℕ)) × (times ≡ value ∷ others) × (8 ≤ length value)
    × ((seconds_of value ≤ℤ now) ⊎ IsForOthers entry)

-- the entry's first not-after time, if there is one, is at least now
abbrev pub EndsWell : CTLEntry → ℤ → Type 0
EndsWell entry now = (times : List (List ℕ)) → HasEnds entry times → EndsLater now times

-- the entry's first not-before time, if there is one, is at most now or doesn't apply to code
-- signing
abbrev pub BeginsWell : CTLEntry → ℤ → Type 0
BeginsWell entry now =
    (times : List (List ℕ)) → HasBegins entry times → BeginsEarlier entry now times

-- The entry is good at the time, by its first attribute of each kind.
pub record IsGoodEntry (entry : CTLEntry) (now : ℤ) : Type 0 where
  pub ends : EndsWell entry now
  pub begins : BeginsWell entry now

-- the first entry with the MD5 of the name is this one
abbrev pub IsEntryOf : List CTLEntry → List ℕ → CTLEntry → Type 0
IsEntryOf entries name entry = IsFirst (HasDigest (md5 name)) entries entry

-- The name, given as its encoding, is listed in the entries: its first entry is good at the time.
abbrev pub IsListed : List CTLEntry → List ℕ → ℤ → Type 0
IsListed entries name now =
    (entry : CTLEntry) × IsEntryOf entries name entry × IsGoodEntry entry now

-- ---- rules for an entry, by what breaks them

-- the not-after time has no value
abbrev pub HasNoEnd : CTLEntry → Rule ListingError
HasNoEnd entry e = HasEnds entry [] × (e ≡ errors.MalformedEntry)

-- the first value of the not-after time is no time
abbrev pub IsRevoked : CTLEntry → Rule ListingError
IsRevoked entry e =
    (value : List ℕ) × (others : List (List ℕ)) × HasEnds entry (value ∷ others)
    × (length value < 8) × (e ≡ errors.Revoked)

-- The not-after time is before now.
pub record HasEnded (entry : CTLEntry) (now : ℤ) (e : ListingError) : Type 0 where
  pub value : List ℕ
  pub others : List (List ℕ)
  pub ends : HasEnds entry (value ∷ others)
  pub whole : 8 ≤ length value
  pub passed : seconds_of value <ℤ now
  pub returned : e ≡ errors.Expired (seconds_of value) now

-- there is no first value, or it is no time
abbrev pub LacksTime : List (List ℕ) → Type 0
LacksTime [] = ⊤
LacksTime (value ∷ others) = length value < 8

-- the not-before time has no value, or its first value is no time
abbrev pub HasNoBeginning : CTLEntry → Rule ListingError
HasNoBeginning entry e =
    (times : List (List ℕ)) × HasBegins entry times × LacksTime times
    × (e ≡ errors.MalformedEntry)

-- The not-before time is after now, and applies to code signing too.
pub record HasNotBegun (entry : CTLEntry) (now : ℤ) (e : ListingError) : Type 0 where
  pub value : List ℕ
  pub others : List (List ℕ)
  pub begins : HasBegins entry (value ∷ others)
  pub whole : 8 ≤ length value
  pub early : now <ℤ seconds_of value
  pub applies : IsForOthers entry → ⊥
  pub returned : e ≡ errors.NotYetValid (seconds_of value) now

-- the rules for the not-after time, in their order
abbrev pub end_rules : CTLEntry → ℤ → List (Rule ListingError)
end_rules entry now = HasNoEnd entry ∷ IsRevoked entry ∷ HasEnded entry now ∷ []

-- the rules for the not-before time, in their order
abbrev pub beginning_rules : CTLEntry → ℤ → List (Rule ListingError)
beginning_rules entry now = HasNoBeginning entry ∷ HasNotBegun entry now ∷ []

-- the rules for an entry, in their order
abbrev pub entry_rules : CTLEntry → ℤ → List (Rule ListingError)
entry_rules entry now =
    end_rules entry now ++ beginning_rules entry now

-- ---- rules for a name

-- no entry has the MD5 of the name
abbrev pub HasNoEntry : List CTLEntry → List ℕ → Rule ListingError
HasNoEntry entries name e =
    HoldsOfNone (HasDigest (md5 name)) entries × (e ≡ errors.NotListed)

-- the first entry of the name breaks its first rule
abbrev pub HasBadEntry : List CTLEntry → List ℕ → ℤ → Rule ListingError
HasBadEntry entries name now e =
    (entry : CTLEntry) × IsEntryOf entries name entry × IsFirstBroken (entry_rules entry now) e

-- The rules for a name, in their order.
abbrev pub listing_rules : List CTLEntry → List ℕ → ℤ → List (Rule ListingError)
listing_rules entries name now = HasNoEntry entries name ∷ HasBadEntry entries name now ∷ []
