-- The results of the steps of a check under a policy, each on its own.
use Rattle.std.specs.Prelude.{◌≡◌, Bool, ℕ, List, [], ◌∷◌, ◌++◌, Option, Some, None, true, false}
use Rattle.asn1_types.specs.declared.generalized_time.GeneralizedTime.{GeneralizedTime}
use Rattle.cms_types.specs.SignedDataElements.{SignedDataElements}
use Rattle.der_core.specs.Rules.{Rule}
use Rattle.key_core.specs.Verifying.{Judge}
use Rattle.names_core.specs.declared.name.DirectoryName.{DirectoryName}
use Rattle.x509_core.specs.OwnedCertificate.{KeptCertificate}
use Rattle.x509_core.specs.declared.error.CertCause.{CertCause}
use Rattle.x509_core.specs.declared.error.CertCause.TheVariants as causes
use Rattle.x509_core.specs.declared.error.CertError.{CertError}
use Rattle.x509_core.specs.declared.error.CertError.TheVariants as cert_errors
use Rattle.x509_core.specs.declared.window.Window.{Window}
use Rattle.x509_types.specs.CertificateElements.{CertificateElements}
use Rattle.authenticode_core.specs.Basic.{VouchesFor}
use Rattle.authenticode_core.specs.IssuerWalk.{IsIssuerPath}
use Rattle.authenticode_core.specs.LinkedPath.{IsUnlinkedAt}
use Rattle.authenticode_core.specs.Inside.SigningSteps.{HasSignerAt}
use Rattle.authenticode_core.specs.ListRules.{IsTrustedCaOf}
use Rattle.authenticode_core.specs.SignerRules.{IsBadlyStamped, IsSignerVouched, IsUnbegun, IsUnexcused, IsUnvouched}
use Rattle.authenticode_core.specs.declared.accepted.Accepted.{Accepted}
use Rattle.authenticode_core.specs.declared.accepted.Excuse.TheVariants as excuses
use Rattle.authenticode_core.specs.declared.error.AuthenticodeError.{AuthenticodeError}
use Rattle.authenticode_core.specs.declared.policy.Policy.{Policy}

-- a digest of the file is given, and the signed data vouches for it with the signer's certificate
-- at this index
abbrev pub IsVouchedAt : Judge → Option (List ℕ) → SignedDataElements → ℕ → Type 0
IsVouchedAt judge file_hash f place =
    (hash : List ℕ) × (file_hash ≡ Some hash) × VouchesFor judge f hash place

-- if basic validation is checked, its index is reported; else none is
abbrev pub IsPlaceAsked : Bool → Judge → Option (List ℕ) → SignedDataElements → Option ℕ → Type 0
IsPlaceAsked true judge file_hash f known =
    (place : ℕ) × IsVouchedAt judge file_hash f place × (known ≡ Some place)
IsPlaceAsked false judge file_hash f known = known ≡ None

-- if the signer's certificate is checked, it is vouched for; else its index is reported, if it is
-- known, with no path and no excuse
abbrev pub IsSignerAsked : Bool → Judge → Policy → SignedDataElements → Option ℕ → Accepted → Type 0
IsSignerAsked true judge policy f known a = IsSignerVouched judge policy f a
IsSignerAsked false judge policy f known a =
    (a.signer ≡ known) × (a.path ≡ []) × (a.excuse ≡ excuses.None)

-- the certificate of the first signer is at this index, and its CA is on the list of the policy, if
-- there is one, or excluded
abbrev pub IsListedAt : Policy → SignedDataElements → ℕ → Type 0
IsListedAt policy f place = HasSignerAt f place × IsTrustedCaOf policy f

-- the same is reported, with this index
abbrev pub at_place : Accepted → ℕ → Accepted
at_place a place = record a { signer = Some place }

-- the cause is that a certificate has expired
abbrev pub IsExpiry : CertCause → Type 0
IsExpiry cause =
    (not_after : GeneralizedTime) × (now : GeneralizedTime)
    × (cause ≡ causes.CertificateExpired not_after now)

-- the error reports a certificate that has expired
abbrev pub ReportsExpiry : CertError → Type 0
ReportsExpiry e =
    (id : DirectoryName) × (cause : CertCause) × IsExpiry cause
    × (e ≡ cert_errors.InvalidCertificate id cause)

-- a certificate of the issuer path isn't linked
abbrev pub IsUnlinkedPath : Judge → Window → List CertificateElements → KeptCertificate
    → Rule CertError
IsUnlinkedPath judge w bag signer e =
    (path : List ℕ) × IsIssuerPath bag signer.elements path × IsUnlinkedAt judge w bag signer path e

-- the rules by which the signer's certificate is valid or there is a reason to excuse its expiry,
-- in order
abbrev pub validity_rules : Judge → Policy → SignedDataElements → List (Rule AuthenticodeError)
validity_rules judge policy f =
    IsUnbegun policy f ∷ IsUnexcused policy f ∷ IsBadlyStamped judge policy f ∷ []

-- the rules for the signer's certificate once it is known and the dates are given, in order
abbrev pub valid_and_vouched_rules : Judge → Policy → SignedDataElements
    → List (Rule AuthenticodeError)
valid_and_vouched_rules judge policy f =
    validity_rules judge policy f ++ IsUnvouched judge policy f ∷ []
