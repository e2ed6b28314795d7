-- A trust list and its octets.
use Rattle.std.specs.Prelude.{◌≡◌, ℕ, List}
use Rattle.der_core.specs.Refusals.{RefusesOctets, Wraps}
use Rattle.der_core.specs.Structure.{IsWithin}
use Rattle.authenticode_core.specs.ContentRefusal.{of_ctl, of_content}
use Rattle.authenticode_core.specs.TrustList.{IsSignedData, unread_list}
use Rattle.authenticode_core.specs.declared.ctl.CertificateTrustList.{CertificateTrustList}
use Rattle.authenticode_core.specs.declared.ctl_error.CtlError.{CtlError}
use Rattle.authenticode_core.specs.declared.error.CheckError.{CheckError}

-- The octets are those of this list: signed data, whatever its content.
abbrev pub IsTrustList : (octets : List ℕ) → CertificateTrustList → Type 0
IsTrustList octets list = IsWithin IsSignedData octets list.signed

-- The octets aren't read as a list, and this is reported.
abbrev pub IsUnreadList : (octets : List ℕ) → CheckError → Type 0
IsUnreadList octets e =
    (cause : CtlError) × Wraps unread_list (RefusesOctets IsSignedData octets) cause
    × (e ≡ of_content (of_ctl cause))
