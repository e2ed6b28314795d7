-- When the signer's certificate is vouched for, if it is checked, rule by rule, in order (RFC 5280
-- 6.1; Windows Authenticode Portable Executable Signature Format).
use Rattle.std.specs.Prelude.{◌≡◌, ℕ, List, [], ◌∷◌, Some, IsTrue}
use Rattle.cms_types.specs.SignedDataElements.{SignedDataElements}
use Rattle.cms_types.specs.SignerElements.{SignerElements}
use Rattle.der_core.specs.Rules.{Rule}
use Rattle.key_core.specs.Verifying.{Judge}
use Rattle.x509_core.specs.Chain.{IsDated, LacksDate}
use Rattle.x509_core.specs.OwnedCertificate.{KeptCertificate}
use Rattle.x509_core.specs.Link.{IsOutside}
use Rattle.x509_core.specs.Window.{HasBegun, HasNotEnded, IsExpired, IsWithinWindow}
use Rattle.x509_core.specs.declared.error.CertError.{CertError}
use Rattle.x509_types.specs.CertificateElements.{CertificateElements}
use Rattle.authenticode_core.specs.Excuses.{HasBadStamp, HasNoExcuse, HasReason, IsExcused}
use Rattle.authenticode_core.specs.IssuerWalk.{IsIssuerPath}
use Rattle.authenticode_core.specs.LinkedPath.{IsPathAsked, IsUnlinkedAt}
use Rattle.authenticode_core.specs.Policy.{policy_checks, window_of}
use Rattle.authenticode_core.specs.SignedFields.{IsFirstSigner, signers_of}
use Rattle.authenticode_core.specs.SigningRules.{HasNoCertificate, IsBagOf, IsNamedByKey, IsSignerCertificate}
use Rattle.authenticode_core.specs.declared.accepted.Accepted.{Accepted}
use Rattle.authenticode_core.specs.declared.accepted.Excuse.{Excuse}
use Rattle.authenticode_core.specs.declared.accepted.Excuse.TheVariants as excuses
use Rattle.authenticode_core.specs.declared.error.AuthenticodeError.{AuthenticodeError}
use Rattle.authenticode_core.specs.declared.error.AuthenticodeError.TheVariants as errors
use Rattle.authenticode_core.specs.declared.policy.Policy.{Policy}

-- The certificate of the first signer, as stored, is at this index of the bag.
pub record IsKeptSigner (f : SignedDataElements) (bag : List CertificateElements) (place : ℕ)
    (signer : KeptCertificate) : Type 0 where
  pub is_bag : IsBagOf f bag
  pub is_signer : IsSignerCertificate f bag place signer.elements

-- without an excuse the validity of the certificate hasn't ended; with one it has expired, which is
-- excused
abbrev pub LastsOrIsExcused : Judge → Policy → SignedDataElements → List CertificateElements
    → KeptCertificate → List ℕ → Excuse → Type 0
LastsOrIsExcused judge policy f bag signer path excuses.None =
    HasNotEnded (window_of policy) signer.elements
LastsOrIsExcused judge policy f bag signer path excuse =
    IsExpired (window_of policy) signer.elements
    × IsExcused judge policy f bag signer path excuse

-- The signer's certificate is valid, except that its not-after date, and no other rule, may be
-- excused; and if the chain is checked, the path is its issuer path, a chain above it, else empty.
pub record IsValidAndVouched (judge : Judge) (policy : Policy) (f : SignedDataElements)
    (bag : List CertificateElements) (signer : KeptCertificate) (path : List ℕ)
    (excuse : Excuse) : Type 0 where
  pub begun : HasBegun (window_of policy) signer.elements
  pub lasts : LastsOrIsExcused judge policy f bag signer path excuse
  pub path_is : IsPathAsked policy.chain judge (window_of policy) bag signer path

-- The signer's certificate is vouched for: it is at the reported index, a date is given if dates
-- are checked, and it is valid or its expiry excused, with the reported path and excuse.
pub record IsSignerVouched (judge : Judge) (policy : Policy) (f : SignedDataElements)
    (a : Accepted) : Type 0 where
  pub bag : List CertificateElements
  pub place : ℕ
  pub signer : KeptCertificate
  pub is : IsKeptSigner f bag place signer
  pub place_is : a.signer ≡ Some place
  pub dated : IsDated (policy_checks policy)
  pub valid : IsValidAndVouched judge policy f bag signer a.path a.excuse

-- ---- rules, by what breaks them

-- there is no signer
abbrev pub LacksSigner : SignedDataElements → Rule AuthenticodeError
LacksSigner f e = (signers_of f ≡ []) × (e ≡ errors.MultipleSignerInfo 0)

-- the first signer is identified by a key identifier
abbrev pub HasKeyName : SignedDataElements → Rule AuthenticodeError
HasKeyName f e = (g : SignerElements) × IsFirstSigner f g × IsNamedByKey g e

-- no certificate has the issuer and the serial number of the first signer
abbrev pub HasUnknownName : SignedDataElements → Rule AuthenticodeError
HasUnknownName f e = (g : SignerElements) × IsFirstSigner f g × HasNoCertificate f g e

-- dates are checked, and none is given
abbrev pub IsUndated : Policy → Rule AuthenticodeError
IsUndated policy e =
    (cause : CertError) × LacksDate (policy_checks policy) cause × (e ≡ errors.CertError cause)

-- The signer's certificate isn't valid, and hasn't expired.
pub record IsUnbegun (policy : Policy) (f : SignedDataElements)
    (e : AuthenticodeError) : Type 0 where
  pub bag : List CertificateElements
  pub place : ℕ
  pub signer : KeptCertificate
  pub is : IsKeptSigner f bag place signer
  pub unexpired : IsExpired (window_of policy) signer.elements → ⊥
  pub cause : CertError
  pub outside : IsOutside (window_of policy) signer cause
  pub returned : e ≡ errors.CertError cause

-- The signer's certificate has expired, and there is no reason to excuse it.
pub record IsUnexcused (policy : Policy) (f : SignedDataElements)
    (e : AuthenticodeError) : Type 0 where
  pub bag : List CertificateElements
  pub place : ℕ
  pub signer : KeptCertificate
  pub is : IsKeptSigner f bag place signer
  pub expired : IsExpired (window_of policy) signer.elements
  pub unexcused : HasNoExcuse f bag signer.elements
  pub cause : CertError
  pub outside : IsOutside (window_of policy) signer cause
  pub returned : e ≡ errors.CertError cause

-- The signer's certificate has expired, and the token that would excuse it has a first certificate
-- that isn't linked to the others with another subject, or a CA that isn't on the list.
pub record IsBadlyStamped (judge : Judge) (policy : Policy) (f : SignedDataElements)
    (e : AuthenticodeError) : Type 0 where
  pub bag : List CertificateElements
  pub place : ℕ
  pub signer : KeptCertificate
  pub is : IsKeptSigner f bag place signer
  pub expired : IsExpired (window_of policy) signer.elements
  pub stamp : HasBadStamp judge policy f bag signer.elements e

-- the certificate is valid; or it has expired, and there is this reason to excuse it
abbrev pub IsValidOrExcusable : Judge → Policy → SignedDataElements → List CertificateElements
    → CertificateElements → Excuse → Type 0
IsValidOrExcusable judge policy f bag c excuses.None = IsWithinWindow (window_of policy) c
IsValidOrExcusable judge policy f bag c excuse =
    IsExpired (window_of policy) c × HasReason judge policy f bag c excuse

-- The signer's certificate is valid, or there is a reason to excuse its expiry; the chain is
-- checked, and a certificate of the issuer path isn't linked.
pub record IsUnvouched (judge : Judge) (policy : Policy) (f : SignedDataElements)
    (e : AuthenticodeError) : Type 0 where
  pub bag : List CertificateElements
  pub place : ℕ
  pub signer : KeptCertificate
  pub is : IsKeptSigner f bag place signer
  pub excuse : Excuse
  pub valid : IsValidOrExcusable judge policy f bag signer.elements excuse
  pub asked : IsTrue policy.chain
  pub path : List ℕ
  pub is_path : IsIssuerPath bag signer.elements path
  pub cause : CertError
  pub unlinked : IsUnlinkedAt judge (window_of policy) bag signer path cause
  pub returned : e ≡ errors.CertError cause

-- The rules for the signer's certificate, in order. That of the issuer path is the last, and holds
-- for an excused signer too.
abbrev pub signer_rules : Judge → Policy → SignedDataElements → List (Rule AuthenticodeError)
signer_rules judge policy f =
    LacksSigner f ∷ HasKeyName f ∷ HasUnknownName f ∷ IsUndated policy ∷ IsUnbegun policy f ∷
    IsUnexcused policy f ∷ IsBadlyStamped judge policy f ∷ IsUnvouched judge policy f ∷ []
