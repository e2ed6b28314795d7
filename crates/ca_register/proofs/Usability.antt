-- A certificate of a register is valid at a date exactly if the date is between the ends of
-- `IsUsable`.
use Rattle.std.proofs.Common.{◌≡◌, ℕ, zero, suc, IsTrue, List, [], ◌∷◌, Some, refl, sym, subst}
use Rattle.std.specs.List.{slice_get}
use Rattle.asn1_types.specs.declared.generalized_time.GeneralizedTime.{GeneralizedTime}
use Rattle.key_core.specs.Verifying.{Judge}
use Rattle.x509_core.specs.Chain.{last_of}
use Rattle.x509_core.specs.History.{AreAncestors, AreAllowed, HasStep, History, IsDuring, IsValidAt, IssuingStep}
use Rattle.x509_core.specs.OwnedCertificate.{KeptCertificate}
use Rattle.x509_core.specs.Window.{IsEarlier}
use Rattle.x509_core.proofs.Histories.{ancestors_once, step_once}
use Rattle.x509_core.proofs.Validity.{same_some}
use Rattle.ca_register.specs.Authorities.{IsRegister}
use Rattle.ca_register.specs.Entries.{HasEntry, history_of, step_of}
use Rattle.ca_register.specs.Usable.{IsAmong, IsBetween, IsUsable}
use Rattle.ca_register.specs.declared.entry.Entry.{Entry}
use Rattle.ca_register.proofs.Dates.{after_earlier, before_later}
use Rattle.ca_register.proofs.Records.{IsStepOf, entry_of, step_at}

module _ (judge : Judge) (entries : List Entry) (certificates : List KeptCertificate) (is : IsRegister judge entries certificates) (place : ℕ)
    (from to date : GeneralizedTime) (usable : IsUsable entries place from to) where
  abbrev Steps : History
  Steps = history_of entries

  during : (between : IsBetween from to date) (at : ℕ) (step : IssuingStep) (index : ℕ) → slice_get (place ∷ usable.ancestors) index ≡ Some at
      → HasStep Steps at step → IsDuring step date
  during between at step index found has =
      let of : IsStepOf entries at step = entry_of entries at step has in
      let among : IsAmong entries (place ∷ usable.ancestors) of.entry = record { index = index; place = at; at = found; has = of.has } in
      subst (λ (s : IssuingStep). IsDuring s date) of.is (record {
        begun = λ early. between.begun (before_later date of.entry.grant.from from early (usable.begins.none_later of.entry among));
        lasts = λ late. between.lasts (after_earlier date of.entry.grant.to to late (usable.ends.none_earlier of.entry among));
      })

  pub valid_between : IsBetween from to date → IsValidAt Steps place date
  valid_between between =
      let own = own_step usable.ancestors usable.are in
      record {
        step = own.0;
        is = own.1;
        valid = during between place own.0 zero refl own.1;
        ancestors = usable.ancestors;
        are = usable.are;
        allowed = λ number ancestor step found has.
            let authority = is.allowed place usable.ancestors usable.are number ancestor step found has in
            record { authority = authority.authority; depth = authority.depth; valid = during between ancestor step (suc number) found has };
        rooted = λ root has.
            let top = usable.are.1 in
            subst (λ (s : IssuingStep). IsTrue s.ca) (step_once Steps (last_of place usable.ancestors) top.step root top.is has)
            (is.rooted (last_of place usable.ancestors) top);
      }
    where
      own_step : (ancestors : List ℕ) → AreAncestors Steps place ancestors → (step : IssuingStep) × HasStep Steps place step
      own_step [] are = (are.1.step, are.1.is)
      own_step (issuer ∷ ancestors) are = (are.0.0.step, are.0.0.is)

  -- each entry of the line is valid at the date
  module _ (valid : IsValidAt Steps place date) where
    same : valid.ancestors ≡ usable.ancestors
    same = ancestors_once Steps place valid.ancestors usable.ancestors valid.are usable.are

    allowed : AreAllowed Steps date usable.ancestors
    allowed = subst (AreAllowed Steps date) same valid.allowed

    lasts_at : (index at : ℕ) (entry : Entry) → slice_get (place ∷ usable.ancestors) index ≡ Some at → HasEntry entries at entry → IsDuring (step_of entry) date
    lasts_at zero at entry found has =
        let here : HasStep Steps place (step_of entry) =
        subst (λ (i : ℕ). HasStep Steps i (step_of entry)) (sym (same_some place at found)) (step_at entries at entry has) in
        subst (λ (s : IssuingStep). IsDuring s date) (step_once Steps place valid.step (step_of entry) valid.is here) valid.valid
    lasts_at (suc index) at entry found has = (allowed index at (step_of entry) found (step_at entries at entry has)).valid

    lasts : (entry : Entry) → IsAmong entries (place ∷ usable.ancestors) entry → IsDuring (step_of entry) date
    lasts entry among = lasts_at among.index among.place entry among.at among.has

    pub between_valid : IsBetween from to date
    between_valid = record {
      begun = λ early. (lasts usable.begins.latest usable.begins.is).begun (subst (IsEarlier date) (sym usable.begins.from) early);
      lasts = λ late. (lasts usable.ends.earliest usable.ends.is).lasts (subst (λ (t : GeneralizedTime). IsEarlier t date) (sym usable.ends.to) late);
    }
