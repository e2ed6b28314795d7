-- When a certificate is valid: at a date, or already at the upper end of an interval and still at
-- its lower one (RFC 5280 4.1.2.5, 6.1.3 (a) (2)).
use Rattle.std.specs.Prelude.{◌≡◌, List, [], ◌∷◌, Option, Some, None, IsTrue}
use Rattle.std.specs.Cmp.Lexicographic.{slice_cmp}
use Rattle.std.specs.Ordering.{nat_cmp}
use Rattle.std.specs.declared.cmp.Ordering.TheVariants.{Less}
use Rattle.asn1_types.specs.Time.{generalized_fields}
use Rattle.asn1_types.specs.Elements.{time as time_element}
use Rattle.asn1_types.specs.declared.generalized_time.GeneralizedTime.{GeneralizedTime}
use Rattle.asn1_types.specs.declared.time.Time.{Time}
use Rattle.der_core.specs.DerElement.{DerElement}
use Rattle.der_core.specs.Rules.{Rule}
use Rattle.names_core.specs.UtcDate.{time_fields}
use Rattle.x509_types.specs.CertificateElements.{CertificateElements}
use Rattle.x509_types.specs.CertificateFields.{not_before_of, not_after_of}
use Rattle.x509_core.specs.declared.error.CertCause.{CertCause}
use Rattle.x509_core.specs.declared.error.CertCause.TheVariants as causes
use Rattle.x509_core.specs.declared.window.DateCheck.{DateCheck}
use Rattle.x509_core.specs.declared.window.DateCheck.TheVariants as dates
use Rattle.x509_core.specs.declared.window.Window.{Window}

-- One moment is before another: by year, month, day, hour, minute and second.
abbrev pub IsEarlier : (a b : GeneralizedTime) → Type 0
IsEarlier a b = slice_cmp nat_cmp (generalized_fields a) (generalized_fields b) ≡ Less

-- The element is a Time at this moment.
pub record IsTimeAt (element : Option DerElement) (moment : GeneralizedTime) : Type 0 where
  pub time : Time
  pub is : element ≡ Some (time_element time)
  pub at : generalized_fields moment ≡ time_fields time

-- the validity of a certificate begins at this moment
abbrev pub IsNotBefore : CertificateElements → GeneralizedTime → Type 0
IsNotBefore f = IsTimeAt (not_before_of f)

-- the validity of a certificate ends at this moment
abbrev pub IsNotAfter : CertificateElements → GeneralizedTime → Type 0
IsNotAfter f = IsTimeAt (not_after_of f)

-- the first of the given moments, if a date or an interval is given
abbrev pub earliest : DateCheck → Option GeneralizedTime
earliest dates.Absent = None
earliest (dates.Exact date) = Some date
earliest (dates.Interval lower upper) = Some lower

-- the last of the given moments, if a date or an interval is given
abbrev pub latest : DateCheck → Option GeneralizedTime
latest dates.Absent = None
latest (dates.Exact date) = Some date
latest (dates.Interval lower upper) = Some upper

-- if checked: not-before is at most the last moment
abbrev pub HasBegun : Window → CertificateElements → Type 0
HasBegun w f =
    IsTrue w.not_before → (not_before now : GeneralizedTime) → IsNotBefore f not_before
    → latest w.date ≡ Some now → IsEarlier now not_before → ⊥

-- if checked: not-after is at least the first moment
abbrev pub HasNotEnded : Window → CertificateElements → Type 0
HasNotEnded w f =
    IsTrue w.not_after → (not_after now : GeneralizedTime) → IsNotAfter f not_after
    → earliest w.date ≡ Some now → IsEarlier not_after now → ⊥

-- The certificate is valid, as far as that is checked. Without a date, each one is.
pub record IsWithinWindow (w : Window) (f : CertificateElements) : Type 0 where
  pub begun : HasBegun w f
  pub lasts : HasNotEnded w f

-- The end of the validity is checked, and not-after is before the first moment.
pub record HasEnded (w : Window) (f : CertificateElements)
    (not_after now : GeneralizedTime) : Type 0 where
  pub asked : IsTrue w.not_after
  pub ends : IsNotAfter f not_after
  pub first : earliest w.date ≡ Some now
  pub passed : IsEarlier not_after now

-- A certificate is expired if its validity has begun, as far as its beginning is checked, and has
-- ended.
abbrev pub IsExpired : Window → CertificateElements → Type 0
IsExpired w f =
    HasBegun w f
    × ((not_after : GeneralizedTime) × (now : GeneralizedTime) × HasEnded w f not_after now)

-- ---- rules, by what breaks them

-- not-before is after the last moment
pub record IsNotYetValid (w : Window) (f : CertificateElements) (cause : CertCause) : Type 0 where
  pub not_before : GeneralizedTime
  pub now : GeneralizedTime
  pub asked : IsTrue w.not_before
  pub begins : IsNotBefore f not_before
  pub last : latest w.date ≡ Some now
  pub early : IsEarlier now not_before
  pub returned : cause ≡ causes.CertificateNotYetValid not_before now

-- not-after is before the first moment
pub record IsOver (w : Window) (f : CertificateElements) (cause : CertCause) : Type 0 where
  pub not_after : GeneralizedTime
  pub now : GeneralizedTime
  pub ended : HasEnded w f not_after now
  pub returned : cause ≡ causes.CertificateExpired not_after now

-- The rules of a window, in their order.
abbrev pub window_rules : Window → CertificateElements → List (Rule CertCause)
window_rules w f = IsNotYetValid w f ∷ IsOver w f ∷ []
