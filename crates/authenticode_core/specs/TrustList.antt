-- Trust lists: their entries, when the name of a CA is on one, and the refusal if it isn't
-- (Microsoft, wincrypt.h).
use Rattle.std.specs.Prelude.{◌≡◌, ◌≢◌, ℕ, ℤ, List, [], ◌∷◌, Option, Some, None}
use Rattle.std.specs.Option.{option_copied}
use Rattle.cms_content.specs.ContentValue.{kind_of_content}
use Rattle.cms_content.specs.declared.content_kind.ContentKind.TheVariants as kinds
use Rattle.cms_content.specs.declared.content_value.ContentValue.{ContentValue}
use Rattle.cms_content.specs.declared.content_value.ContentValue.TheVariants as contents
use Rattle.cms_content.specs.declared.ctl.Ctl.{Ctl}
use Rattle.cms_content.specs.declared.ctl_entry.CTLEntry.{CTLEntry}
use Rattle.cms_types.specs.Pkcs7.{pkcs7}
use Rattle.cms_types.specs.declared.signed_data.pkcs7.Pkcs7Certificate.{Pkcs7Certificate}
use Rattle.der_core.specs.DerElement.{DerElement}
use Rattle.der_core.specs.Encoding.{encoding}
use Rattle.der_core.specs.Rules.{Rule, IsFirstBroken}
use Rattle.der_core.specs.declared.error.DerError.{DerError}
use Rattle.der_core.specs.declared.error.DerError.TheVariants as der
use Rattle.key_core.specs.declared.element.Element.TheVariants as structures
use Rattle.cms_content.specs.Listing.{IsListed, listing_rules}
use Rattle.cms_content.specs.declared.listing.error.ListingError.{ListingError}
use Rattle.cms_content.specs.declared.listing.error.ListingError.TheVariants as listings
use Rattle.x509_core.specs.declared.error.CertError.TheVariants as certs
use Rattle.authenticode_core.specs.declared.ctl.CertificateTrustList.{CertificateTrustList}
use Rattle.authenticode_core.specs.declared.ctl_error.CtlError.{CtlError}
use Rattle.authenticode_core.specs.declared.ctl_error.CtlError.TheVariants as ctl
use Rattle.authenticode_core.specs.declared.error.AuthenticodeError.{AuthenticodeError}
use Rattle.authenticode_core.specs.declared.error.AuthenticodeError.TheVariants as errors
use Rattle.authenticode_core.specs.declared.pkcs7_error.Pkcs7Error.TheVariants as signed
use Rattle.authenticode_core.specs.declared.policy.Policy.{Policy}

-- ---- lists

-- the element is a ContentInfo of signed data (RFC 5652 3)
abbrev pub IsSignedData : DerElement → Pkcs7Certificate → Type 0
IsSignedData element value = element ≡ pkcs7 value

-- why octets aren't read as a list, from why they aren't read as signed data
abbrev pub unread_list : DerError → CtlError
unread_list der.Memory = ctl.Memory
unread_list source =
    ctl.FailedToParseCtl (signed.Cert (certs.Asn1Deserialization structures.Pkcs7 source))

-- the content, if there is one
abbrev pub content_of : CertificateTrustList → Option ContentValue
content_of list = list.signed.signed_data.content_info.content

-- the content is a trust list with these entries
abbrev pub HasEntries : CertificateTrustList → List CTLEntry → Type 0
HasEntries list entries =
    (content : Ctl) × (content_of list ≡ Some (contents.CertificateTrustList content))
    × (entries ≡ content.entries)

-- there is no content
abbrev pub HasNoContent : CertificateTrustList → Rule CtlError
HasNoContent list e = (content_of list ≡ None) × (e ≡ ctl.NoContent)

-- the content is another one
abbrev pub HasOtherContent : CertificateTrustList → Rule CtlError
HasOtherContent list e =
    (content : ContentValue) × (content_of list ≡ Some content)
    × (kind_of_content content ≢ kinds.CertificateTrustList) × (e ≡ ctl.IncorrectContentValue)

-- The rules of the content, in their order.
abbrev pub content_rules : CertificateTrustList → List (Rule CtlError)
content_rules list = HasNoContent list ∷ HasOtherContent list ∷ []

-- ---- the name of a CA

-- The name is listed in the entries of the list, at a time in whole seconds since 1601-01-01, UTC.
abbrev pub IsOnList : CertificateTrustList → ℤ → DerElement → Type 0
IsOnList list now name =
    (entries : List CTLEntry) × HasEntries list entries × IsListed entries (encoding name) now

-- the error for a name that isn't listed
abbrev pub of_listing : ListingError → AuthenticodeError
of_listing listings.NotListed = errors.CAIsNotTrusted
of_listing listings.MalformedEntry = errors.CtlError ctl.MalformedEntry
of_listing listings.Revoked = errors.CaCertificateRevoked
of_listing (listings.Expired not_after now) = errors.CaCertificateExpired not_after now
of_listing (listings.NotYetValid not_before now) = errors.CaCertificateNotYetValid not_before now

-- ---- rules, by what breaks them

-- the content isn't a trust list
abbrev pub IsNoList : CertificateTrustList → Rule AuthenticodeError
IsNoList list e =
    (cause : CtlError) × IsFirstBroken (content_rules list) cause × (e ≡ errors.CtlError cause)

-- the name isn't listed in the entries
abbrev pub IsUnlisted : CertificateTrustList → ℤ → DerElement → Rule AuthenticodeError
IsUnlisted list now name e =
    (entries : List CTLEntry) × HasEntries list entries × (cause : ListingError)
    × IsFirstBroken (listing_rules entries (encoding name) now) cause × (e ≡ of_listing cause)

-- The rules of a name on a list, in their order.
abbrev pub name_rules : CertificateTrustList → ℤ → DerElement → List (Rule AuthenticodeError)
name_rules list now name = IsNoList list ∷ IsUnlisted list now name ∷ []
