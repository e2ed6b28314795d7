-- A certificate begins and ends at one moment each, and is valid if neither rule is broken.
use Rattle.std.proofs.Common.{◌≡◌, ℕ, List, Option, Some, Result, Ok, Err, MatchResult, inl, inr, refl, sym, ap, ◌∙◌}
use Rattle.std.specs.Cmp.Lexicographic.{slice_cmp}
use Rattle.std.specs.Ordering.{nat_cmp}
use Rattle.asn1_types.specs.Time.{generalized_fields}
use Rattle.asn1_types.specs.Elements.{time as time_element}
use Rattle.asn1_types.specs.Facts.Elements.{times_once}
use Rattle.asn1_types.specs.declared.generalized_time.GeneralizedTime.{GeneralizedTime}
use Rattle.asn1_types.specs.declared.time.Time.{Time}
use Rattle.der_core.specs.DerElement.{DerElement}
use Rattle.der_core.specs.Rules.{IsFirstBroken}
use Rattle.names_core.specs.UtcDate.{time_fields}
use Rattle.x509_types.specs.CertificateElements.{CertificateElements}
use Rattle.x509_types.specs.CertificateFields.{not_before_of, not_after_of}
use Rattle.x509_core.specs.Window.{IsEarlier, IsTimeAt, IsNotBefore, IsNotAfter, earliest, latest, HasBegun}
use Rattle.x509_core.specs.Window.{HasNotEnded, IsWithinWindow, IsExpired, IsNotYetValid, IsOver, window_rules}
use Rattle.x509_core.specs.declared.error.CertCause.{CertCause}
use Rattle.x509_core.specs.declared.error.CertCause.TheVariants as causes
use Rattle.x509_core.specs.declared.window.Window.{Window}

pub same_some : {A : Type 0} (x y : A) → Some x ≡ Some y → x ≡ y
same_some x y e = cc

pub one_moment : (element : Option DerElement) (a b : GeneralizedTime) → IsTimeAt element a → IsTimeAt element b → generalized_fields a ≡ generalized_fields b
one_moment element a b p q =
    p.at ∙ ap time_fields (times_once p.time q.time (same_some (time_element p.time) (time_element q.time) (sym p.is ∙ q.is))) ∙ sym q.at

earlier_there : (a b c d : GeneralizedTime) → generalized_fields a ≡ generalized_fields c → generalized_fields b ≡ generalized_fields d → IsEarlier a b
    → IsEarlier c d
earlier_there a b c d p q e = ap (λ (xs : List ℕ). slice_cmp nat_cmp xs (generalized_fields d)) (sym p)
    ∙ ap (slice_cmp nat_cmp (generalized_fields a)) (sym q) ∙ e

-- a Time of a certificate, with its date
pub time_at : (element : Option DerElement) (time : Time) (date : GeneralizedTime) → element ≡ Some (time_element time)
    → generalized_fields date ≡ time_fields time → IsTimeAt element date
time_at element time date is at = record { time = time; is = is; at = at }

pub begun_by : (w : Window) (f : CertificateElements) (not_before now : GeneralizedTime) → IsNotBefore f not_before → latest w.date ≡ Some now
    → (IsEarlier now not_before → ⊥) → HasBegun w f
begun_by w f not_before now begins last not_early = λ asked other_begin other begins' last' early.
    not_early (earlier_there other other_begin now not_before (ap generalized_fields (same_some other now (sym last' ∙ last)))
    (one_moment (not_before_of f) other_begin not_before begins' begins) early)

pub lasts_by : (w : Window) (f : CertificateElements) (not_after now : GeneralizedTime) → IsNotAfter f not_after → earliest w.date ≡ Some now
    → (IsEarlier not_after now → ⊥) → HasNotEnded w f
lasts_by w f not_after now ends first not_early = λ asked other_end other ends' first' early.
    not_early (earlier_there other_end other not_after now (one_moment (not_after_of f) other_end not_after ends' ends)
    (ap generalized_fields (same_some other now (sym first' ∙ first))) early)

-- a certificate that is valid breaks no rule
pub valid_is_met : (w : Window) (f : CertificateElements) (cause : CertCause) → IsWithinWindow w f → IsFirstBroken (window_rules w f) cause → ⊥
valid_is_met w f cause valid (inl early) = valid.begun early.asked early.not_before early.now early.begins early.last early.early
valid_is_met w f cause valid (inr (begun, inl over)) = valid.lasts over.ended.asked over.not_after over.now over.ended.ends over.ended.first over.ended.passed
valid_is_met w f cause valid (inr (begun, inr none)) = none.1

-- a validity that has begun doesn't break the first rule
pub begun_is_met : (w : Window) (f : CertificateElements) → HasBegun w f → (cause : CertCause) → IsNotYetValid w f cause → ⊥
begun_is_met w f begun cause early = begun early.asked early.not_before early.now early.begins early.last early.early

pub valid_or_over : {X : Type 0} (w : Window) (f : CertificateElements) (r : Result X CertCause) → HasBegun w f
    → MatchResult r (λ _. HasNotEnded w f) (IsOver w f)
    → MatchResult r (λ _. IsWithinWindow w f) (IsFirstBroken (window_rules w f))
valid_or_over w f (Ok v) begun lasts = record { begun = begun; lasts = lasts }
valid_or_over w f (Err e) begun over = inr (begun_is_met w f begun, inl over)

-- ---- what has expired

abbrev IsReturnedExpired : Window → CertificateElements → Type 0
IsReturnedExpired w f = (not_after : GeneralizedTime) × (now : GeneralizedTime) × IsFirstBroken (window_rules w f) (causes.CertificateExpired not_after now)

pub expired_is_returned : (w : Window) (f : CertificateElements) → IsExpired w f → IsReturnedExpired w f
expired_is_returned w f expired = (
  expired.1.0,
  expired.1.1,
  inr (begun_is_met w f expired.0, inl (record { not_after = expired.1.0; now = expired.1.1; ended = expired.1.2; returned = refl })),
)

other_cause : (a b c d : GeneralizedTime) → causes.CertificateExpired a b ≡ causes.CertificateNotYetValid c d → ⊥
other_cause a b c d e = cc

pub returned_is_expired : (w : Window) (f : CertificateElements) → IsReturnedExpired w f → IsExpired w f
returned_is_expired w f (not_after, now, inl early) = absurd (other_cause not_after now early.not_before early.now early.returned)
returned_is_expired w f (not_after, now, inr (met, inl over)) = (
  λ asked not_before now' begins last early. met (causes.CertificateNotYetValid not_before now') (record {
    not_before = not_before;
    now = now';
    asked = asked;
    begins = begins;
    last = last;
    early = early;
    returned = refl;
  }),
  (over.not_after, over.now, over.ended),
)
returned_is_expired w f (not_after, now, inr (met, inr none)) = absurd none.1
