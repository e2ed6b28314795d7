-- What is checked of an owned signature, as configured, and the result.
use Rattle.std.specs.Borrow.{Bor}
use Rattle.std.specs.Prelude.{◌≡◌, Bool, ℕ, ℤ, List, [], ◌∷◌, ◌++◌, Some, None, Result, MatchResult, true, false}
use Rattle.cms_types.specs.SignedDataElements.{SignedDataElements}
use Rattle.der_core.specs.DerElement.{DerElement}
use Rattle.der_core.specs.Encoding.{IsDer}
use Rattle.der_core.specs.Rules.{Rule}
use Rattle.der_core.specs.declared.error.DerError.{DerError}
use Rattle.key_core.specs.KeyRefusals.{CantBeWritten}
use Rattle.key_core.specs.Verifying.{Judge}
use Rattle.names_core.specs.declared.name.DirectoryName.{DirectoryName}
use Rattle.x509_core.specs.declared.window.DateCheck.{DateCheck}
use Rattle.authenticode_core.specs.SigningRules.{RefusesAuthenticodeBy}
use Rattle.authenticode_core.specs.Trusted.{IsTrusted, policy_rules}
use Rattle.authenticode_core.specs.declared.accepted.Accepted.{Accepted}
use Rattle.authenticode_core.specs.declared.ctl.CertificateTrustList.{CertificateTrustList}
use Rattle.authenticode_core.specs.declared.error.AuthenticodeError.{AuthenticodeError}
use Rattle.authenticode_core.specs.declared.error.AuthenticodeError.TheVariants as errors
use Rattle.authenticode_core.specs.declared.policy.Policy.{Policy}

-- the policy at these dates
abbrev pub at_dates : DateCheck → Policy → Policy
at_dates date policy = record policy { date = date }

-- the policy, with or without that a certificate has begun to be valid
abbrev pub policy_with_not_before : Bool → Policy → Policy
policy_with_not_before asked policy = record policy { not_before = asked }

-- the policy, with or without that a certificate hasn't expired
abbrev pub policy_with_not_after : Bool → Policy → Policy
policy_with_not_after asked policy = record policy { not_after = asked }

-- the policy, with or without the chain
abbrev pub policy_with_chain : Bool → Policy → Policy
policy_with_chain asked policy = record policy { chain = asked }

-- the policy, with or without that the signer's certificate is valid, or its expiry excused
abbrev pub with_signing : Bool → Policy → Policy
with_signing asked policy = record policy { signing = asked }

-- basic validation is checked, with this digest
abbrev pub with_basic : List ℕ → Policy → Policy
with_basic file_hash policy = record policy { basic = true; file_hash = Some file_hash }

-- it isn't, and there is no digest
abbrev pub without_basic : Policy → Policy
without_basic policy = record policy { basic = false; file_hash = None }

-- the policy, with or without that the signer's CA is on the trust list, or excluded
abbrev pub with_list_check : Bool → Policy → Policy
with_list_check asked policy = record policy { against_list = asked }

-- the policy with this trust list, at this time
abbrev pub with_list : Bor CertificateTrustList → ℤ → Policy → Policy
with_list list now policy = record policy { list = Some list; now = now }

-- these names are excluded too
abbrev pub with_excluded : List DirectoryName → Policy → Policy
with_excluded names policy =
    record policy { exclude = true; excluded = policy.excluded ++ names }

-- no names are
abbrev pub without_excluded : Policy → Policy
without_excluded policy = record policy { exclude = false; excluded = [] }

-- ---- results

-- the value has no encoding, for the cause in the error
abbrev pub HasNoEncoding : DerElement → Rule AuthenticodeError
HasNoEncoding element e =
    (source : DerError) × CantBeWritten element source × (e ≡ errors.Asn1DerError source)

-- The rules for a value with this element and these fields, in order: that it has an encoding, then
-- those of the policy.
abbrev pub kept_rules : Judge → Policy → DerElement → SignedDataElements
    → List (Rule AuthenticodeError)
kept_rules judge policy element f = HasNoEncoding element ∷ policy_rules judge policy f

-- The value has an encoding, and is trusted under the policy.
abbrev pub IsKeptTrusted : Judge → Policy → DerElement → SignedDataElements → Accepted → Type 0
IsKeptTrusted judge policy element f accepted = IsDer element × IsTrusted judge policy f accepted

-- The result: that it is trusted; the first broken rule; out of memory.
abbrev pub IsVerdict : Judge → Policy → DerElement → SignedDataElements
    → Result Accepted AuthenticodeError → Type 0
IsVerdict judge policy element f r =
    MatchResult r (IsKeptTrusted judge policy element f)
    (RefusesAuthenticodeBy (kept_rules judge policy element f))
