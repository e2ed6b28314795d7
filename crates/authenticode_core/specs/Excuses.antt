-- Why the expiry of a signer's certificate is excused: a certificate for time stamping in the bag,
-- or a token with such a certificate whose first certificate is linked to its others with another
-- subject, and, if the policy has a trust list, whose CA is on it (Windows Authenticode Portable
-- Executable Signature Format). The signature and the time of a token aren't checked. An excuse
-- waives the not-after date of the signer's certificate alone: its not-before date and its issuer
-- path are checked as without an excuse.
use Rattle.std.specs.Prelude.{◌≡◌, ◌⊎◌, ℕ, zero, suc, List, [], ◌∷◌, Some, length, false}
use Rattle.std.specs.Option.{option_copied}
use Rattle.asn1_types.specs.declared.oids.TheConstants.{KP_LIFETIME_SIGNING, KP_TIME_STAMPING, RFC3161_COUNTER_SIGN}
use Rattle.cms_types.specs.Pkcs7.{pkcs7}
use Rattle.cms_types.specs.SignedData.{signed_data_elements}
use Rattle.cms_types.specs.SignedDataElements.{SignedDataElements}
use Rattle.cms_types.specs.SignerElements.{SignerElements}
use Rattle.cms_types.specs.declared.signed_data.pkcs7.Pkcs7Certificate.{Pkcs7Certificate}
use Rattle.der_core.specs.Optional.{members_of}
use Rattle.der_core.specs.DerElement.{DerElement}
use Rattle.der_core.specs.Rules.{Rule, IsFirstBroken}
use Rattle.key_core.specs.Verifying.{Judge}
use Rattle.x509_core.specs.OwnedCertificate.{KeptCertificate}
use Rattle.x509_core.specs.declared.error.CertError.{CertError}
use Rattle.x509_core.specs.declared.window.DateCheck.TheVariants as dates
use Rattle.x509_core.specs.declared.window.Window.{Window}
use Rattle.x509_types.specs.CertificateElements.{CertificateElements}
use Rattle.x509_types.specs.Purposes.{NamesPurpose}
use Rattle.authenticode_core.specs.AuthorityName.{IsNameAt}
use Rattle.authenticode_core.specs.IssuerWalk.{AreOthers}
use Rattle.authenticode_core.specs.LinkedPath.{AreLinkedAt, IsPathAsked, IsUnlinkedAt}
use Rattle.authenticode_core.specs.Indices.{StandsAt}
use Rattle.authenticode_core.specs.Policy.{window_of}
use Rattle.authenticode_core.specs.SignedFields.{IsAttributeOf, IsFirstSigner}
use Rattle.authenticode_core.specs.SigningRules.{IsBagOf}
use Rattle.authenticode_core.specs.TrustList.{IsOnList, name_rules}
use Rattle.authenticode_core.specs.declared.accepted.Excuse.{Excuse}
use Rattle.authenticode_core.specs.declared.accepted.Excuse.TheVariants as excuses
use Rattle.authenticode_core.specs.declared.ctl.CertificateTrustList.{CertificateTrustList}
use Rattle.authenticode_core.specs.declared.error.AuthenticodeError.{AuthenticodeError}
use Rattle.authenticode_core.specs.declared.error.AuthenticodeError.TheVariants as errors
use Rattle.authenticode_core.specs.declared.policy.Policy.{Policy}

-- some certificate of the bag has the extended key usage time stamping (RFC 5280 4.2.1.12)
abbrev pub NamesTimeStamping : List CertificateElements → Type 0
NamesTimeStamping bag =
    (place : ℕ) × (c : CertificateElements) × StandsAt bag place c
    × NamesPurpose c KP_TIME_STAMPING.now

-- the certificate has the extended key usage lifetime signing: its signatures end with it
abbrev pub NamesLifetime : CertificateElements → Type 0
NamesLifetime c = NamesPurpose c KP_LIFETIME_SIGNING.now

-- ---- tokens

-- The first unsigned attribute of the first signer holds time-stamp tokens, and the first of them
-- has these fields.
pub record HasToken (f t : SignedDataElements) : Type 0 where
  pub g : SignerElements
  pub signer : IsFirstSigner f g
  pub attribute : DerElement
  pub attributes : List DerElement
  pub unsigned : members_of g.unsigned_attrs ≡ attribute ∷ attributes
  pub token : DerElement
  pub tokens : List DerElement
  pub stamps : IsAttributeOf RFC3161_COUNTER_SIGN.now attribute (token ∷ tokens)
  pub value : Pkcs7Certificate
  pub spelled : token ≡ pkcs7 value
  pub fields : t ≡ signed_data_elements value.signed_data

-- Some certificate of the token's bag has the extended key usage time stamping.
pub record IsForStamping (t : SignedDataElements) (bag : List CertificateElements) : Type 0 where
  pub is_bag : IsBagOf t bag
  pub named : NamesTimeStamping bag

-- Some certificate of the token's bag has the extended key usage time stamping, and this is the
-- first of all.
pub record LeadsStamping (t : SignedDataElements) (c : CertificateElements) : Type 0 where
  pub bag : List CertificateElements
  pub stamping : IsForStamping t bag
  pub stands : StandsAt bag 0 c

-- this many indices, from one on
abbrev pub places_from : ℕ → ℕ → List ℕ
places_from place zero = []
places_from place (suc count) = place ∷ places_from (suc place) count

-- the indices of a bag without those of certificates with the subject of this one
abbrev pub AreOthersThan : List CertificateElements → CertificateElements → List ℕ → Type 0
AreOthersThan bag first places = AreOthers bag first.tbs.subject (places_from 0 (length bag)) places

-- the window without a date
abbrev pub any_time : Window
any_time = record { date = dates.Absent; not_before = false; not_after = false }

-- The first certificate of the bag is linked to the others with another subject, in order, at any
-- time.
pub record IsLinkedToken (judge : Judge) (bag : List CertificateElements) : Type 0 where
  pub first : KeptCertificate
  pub stands : StandsAt bag 0 first.elements
  pub places : List ℕ
  pub others : AreOthersThan bag first.elements places
  pub linked : AreLinkedAt judge any_time bag first places

-- The first certificate of the bag isn't linked to these.
pub record IsUnlinkedToken (judge : Judge) (bag : List CertificateElements)
    (e : CertError) : Type 0 where
  pub first : KeptCertificate
  pub stands : StandsAt bag 0 first.elements
  pub places : List ℕ
  pub others : AreOthersThan bag first.elements places
  pub unlinked : IsUnlinkedAt judge any_time bag first places e

-- if the policy has a list, the CA of the certificates of the bag is on it
abbrev pub IsListedToken : Policy → List CertificateElements → Type 0
IsListedToken policy bag =
    (list : CertificateTrustList) → option_copied policy.list ≡ Some list
    → (ca : DerElement) × IsNameAt bag (places_from 0 (length bag)) ca
    × IsOnList list policy.now ca

-- ---- rules of a token's bag, by what breaks them

-- the first certificate of the bag isn't linked to the others with another subject
abbrev pub IsUnlinkedStamp : Judge → List CertificateElements → Rule AuthenticodeError
IsUnlinkedStamp judge bag e =
    (cause : CertError) × IsUnlinkedToken judge bag cause × (e ≡ errors.InvalidTimestampCert cause)

-- the policy has a list, and the CA of the certificates of the bag isn't on it
abbrev pub IsUnlistedStamp : Policy → List CertificateElements → Rule AuthenticodeError
IsUnlistedStamp policy bag e =
    (list : CertificateTrustList) × (option_copied policy.list ≡ Some list)
    × (ca : DerElement) × IsNameAt bag (places_from 0 (length bag)) ca
    × IsFirstBroken (name_rules list policy.now ca) e

-- The rules of a token's bag, in their order.
abbrev pub stamp_rules : Judge → Policy → List CertificateElements → List (Rule AuthenticodeError)
stamp_rules judge policy bag = IsUnlinkedStamp judge bag ∷ IsUnlistedStamp policy bag ∷ []

-- ---- excuses for the signer's certificate in a bag, which has expired

-- The signature has a token, some certificate of it has the extended key usage time stamping, its
-- first certificate is linked to the others with another subject, and if the policy has a list, its
-- CA is on it.
pub record IsStamped (judge : Judge) (policy : Policy) (f : SignedDataElements) : Type 0 where
  pub t : SignedDataElements
  pub has : HasToken f t
  pub bag : List CertificateElements
  pub stamping : IsForStamping t bag
  pub linked : IsLinkedToken judge bag
  pub listed : IsListedToken policy bag

-- There is this reason to excuse the expiry: the certificate doesn't have the extended key usage
-- lifetime signing, and some certificate of the bag has time stamping; or none of the bag does, and
-- the signature has a token with such a certificate, whose first certificate is linked to the
-- others with another subject, and whose CA is on the list of the policy, if there is one.
abbrev pub HasReason : Judge → Policy → SignedDataElements → List CertificateElements
    → CertificateElements → Excuse → Type 0
HasReason judge policy f bag c excuses.None = ⊥
HasReason judge policy f bag c excuses.Bag = (NamesLifetime c → ⊥) × NamesTimeStamping bag
HasReason judge policy f bag c excuses.Token =
    (NamesLifetime c → ⊥) × (NamesTimeStamping bag → ⊥) × IsStamped judge policy f

-- The expiry is excused, for this reason; and if the chain is checked, the path is the issuer path,
-- a chain above the expired certificate, each of its certificates valid under the policy; else it
-- is empty.
pub record IsExcused (judge : Judge) (policy : Policy) (f : SignedDataElements)
    (bag : List CertificateElements) (signer : KeptCertificate) (path : List ℕ)
    (excuse : Excuse) : Type 0 where
  pub reason : HasReason judge policy f bag signer.elements excuse
  pub path_is : IsPathAsked policy.chain judge (window_of policy) bag signer path

-- the signature has no token with a certificate for time stamping
abbrev pub IsUnstamped : SignedDataElements → Type 0
IsUnstamped f =
    (t : SignedDataElements) (bag : List CertificateElements) → HasToken f t → IsForStamping t bag
    → ⊥

-- There is no reason, and no other error: the certificate has the extended key usage lifetime
-- signing, or no certificate of the bag or of a token has time stamping.
abbrev pub HasNoExcuse : SignedDataElements → List CertificateElements → CertificateElements
    → Type 0
HasNoExcuse f bag c = NamesLifetime c ⊎ ((NamesTimeStamping bag → ⊥) × IsUnstamped f)

-- There is a token that could excuse the expiry, some certificate of it has the extended key usage
-- time stamping, and it breaks a rule, the first of which the error reports.
pub record HasBadStamp (judge : Judge) (policy : Policy) (f : SignedDataElements)
    (bag : List CertificateElements) (c : CertificateElements)
    (e : AuthenticodeError) : Type 0 where
  pub mortal : NamesLifetime c → ⊥
  pub unnamed : NamesTimeStamping bag → ⊥
  pub t : SignedDataElements
  pub has : HasToken f t
  pub stamping_bag : List CertificateElements
  pub stamping : IsForStamping t stamping_bag
  pub broken : IsFirstBroken (stamp_rules judge policy stamping_bag) e
