-- The texts of errors.
use Rattle.std.specs.Prelude.{ℕ, List, ◌++◌, codes}
use Rattle.std.specs.Fmt.{signed_decimal}
use Rattle.cms_content.specs.declared.listing.error.ListingError.{ListingError}
use Rattle.cms_content.specs.declared.listing.error.ListingError.TheVariants.{NotListed, MalformedEntry, Revoked, Expired, NotYetValid}

-- why the name of a CA isn't listed
abbrev pub error_text : ListingError → List ℕ
error_text NotListed = codes "the CA is not on the trust list"
error_text MalformedEntry = codes "the CA's entry of the trust list is malformed"
error_text Revoked = codes "the trust list revokes the CA"
error_text (Expired not_after now) =
    codes "the CA was on the trust list until " ++ signed_decimal not_after
    ++ codes ", and it is " ++ signed_decimal now ++ codes " (seconds since 1601)"
error_text (NotYetValid not_before now) =
    codes "the CA is on the trust list from " ++ signed_decimal not_before
    ++ codes " on, and it is " ++ signed_decimal now ++ codes " (seconds since 1601)"
