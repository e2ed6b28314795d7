-- The certificates of a register that are usable at a date are those that are accepted.
use Rattle.std.proofs.Common.{◌↔◌, ◌<◌, ℕ, IsTrue, Bool, List, ◌∷◌, length, sym, subst}
use Rattle.asn1_types.specs.declared.generalized_time.GeneralizedTime.{GeneralizedTime}
use Rattle.key_core.specs.Verifying.{Judge}
use Rattle.x509_core.specs.OwnedCertificate.{KeptCertificate}
use Rattle.x509_core.specs.Window.{IsEarlier}
use Rattle.x509_core.proofs.Histories.{ancestors_once, item_at}
use Rattle.x509_core.proofs.IssuedLinks.{accepted, valid}
use Rattle.ca_register.specs.Authorities.{IsRegister}
use Rattle.ca_register.specs.Counting.{IsAcceptedAt, IsUsableAt}
use Rattle.ca_register.specs.Entries.{history_of}
use Rattle.ca_register.specs.Usable.{IsBetween, IsEarliestTo, IsLatestFrom, IsUsable}
use Rattle.ca_register.specs.declared.entry.Entry.{Entry}
use Rattle.ca_register.proofs.Dates.{after_earlier, before_later}
use Rattle.ca_register.proofs.Usability.{between_valid, valid_between}
use Rattle.ca_register.proofs.Verdicts.{above_at, place_within}

module _ (entries : List Entry) (place : ℕ) (date from to : GeneralizedTime) (usable : IsUsable entries place from to) where
  -- the ends are the same for each pair of dates
  pub between_once : (first last : GeneralizedTime) → IsUsable entries place first last → IsBetween first last date → IsBetween from to date
  between_once first last other between =
      let same = ancestors_once (history_of entries) place usable.ancestors other.ancestors usable.are other.are in
      let begins = subst (λ (ps : List ℕ). IsLatestFrom entries (place ∷ ps) from) same usable.begins in
      let ends = subst (λ (ps : List ℕ). IsEarliestTo entries (place ∷ ps) to) same usable.ends in
      record {
        begun = λ early. between.begun (before_later date begins.latest.grant.from first (subst (IsEarlier date) (sym begins.from) early)
            (other.begins.none_later begins.latest begins.is));
        lasts = λ late. between.lasts (after_earlier date ends.earliest.grant.to last (subst (λ (t : GeneralizedTime). IsEarlier t date) (sym ends.to) late)
            (other.ends.none_earlier ends.earliest ends.is));
      }

  pub usable_by : (test : Bool) → (IsTrue test ↔ IsBetween from to date) → IsTrue test ↔ IsUsableAt entries date place
  usable_by test decides = (
    (λ yes. record { from = from; to = to; usable = usable; between = decides.0 yes }),
    (λ at. decides.1 (between_once at.from at.to at.usable at.between)),
  )

  -- ---- acceptance

  module _ (judge : Judge) (certificates : List KeptCertificate) (is : IsRegister judge entries certificates) (within : place < length entries) where
    accepted_at : IsBetween from to date → IsAcceptedAt judge entries certificates date place
    accepted_at between =
        let kept : ∥ IsRegister judge entries certificates ∥₁ = ∣ is ∣₁ in
        let here = item_at certificates place (place_within judge entries certificates kept place within) in
        let entry = item_at entries place within in
        let above = above_at judge entries certificates kept place within entry.0 entry.1 usable.ancestors usable.are in
        record {
          checked = here.0;
          has = here.1;
          ancestors = usable.ancestors;
          are = usable.are;
          parents = _;
          their = above;
          accepted = accepted judge (history_of entries) certificates date is.issued place usable.ancestors here.0 _ usable.are here.1 above
              (valid_between judge entries certificates is place from to date usable between);
        }

    between_at : IsAcceptedAt judge entries certificates date place → IsBetween from to date
    between_at at =
        let same = ancestors_once (history_of entries) place at.ancestors usable.ancestors at.are usable.are in
        between_valid judge entries certificates is place from to date usable
        (valid judge (history_of entries) certificates date is.issued place at.ancestors at.checked at.parents at.are at.has at.their at.accepted)

    pub accepted_by : (test : Bool) → (IsTrue test ↔ IsBetween from to date) → IsTrue test ↔ IsAcceptedAt judge entries certificates date place
    accepted_by test decides = ((λ yes. accepted_at (decides.0 yes)), (λ at. decides.1 (between_at at)))
