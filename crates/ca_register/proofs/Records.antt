-- Entries and the steps of their history.
use Rattle.std.proofs.Common.{◌≡◌, ℕ, List, length, Option, Some, None, refl, sym, ap, ◌∙◌}
use Rattle.std.specs.List.{slice_get}
use Rattle.std.specs.Prelude.{option_map}
use Rattle.std.proofs.lemmas.Option.{slice_get-map}
use Rattle.std.proofs.lemmas.List.{length-map}
use Rattle.x509_core.specs.History.{HasIssuer, HasStep, IsRootStep, IssuingStep}
use Rattle.x509_core.proofs.Validity.{same_some}
use Rattle.ca_register.specs.Entries.{HasEntry, history_of, step_of}
use Rattle.ca_register.specs.declared.entry.Entry.{Entry}

-- the entry of a step
pub record IsStepOf (entries : List Entry) (place : ℕ) (step : IssuingStep) : Type 0 where
  pub entry : Entry
  pub has : HasEntry entries place entry
  pub is : step_of entry ≡ step

mapped_some : (found : Option Entry) (step : IssuingStep) → option_map step_of found ≡ Some step
    → (entry : Entry) × (found ≡ Some entry) × (step_of entry ≡ step)
mapped_some None step e = absurd cc
mapped_some (Some entry) step e = (entry, refl, same_some (step_of entry) step e)

pub entry_of : (entries : List Entry) (place : ℕ) (step : IssuingStep) → HasStep (history_of entries) place step → IsStepOf entries place step
entry_of entries place step has =
    let found = mapped_some (slice_get entries place) step (sym (slice_get-map step_of entries place) ∙ has) in
    record { entry = found.0; has = found.1; is = found.2 }

pub step_at : (entries : List Entry) (place : ℕ) (entry : Entry) → HasEntry entries place entry → HasStep (history_of entries) place (step_of entry)
step_at entries place entry has = slice_get-map step_of entries place ∙ ap (option_map step_of) has

pub as_many : (entries : List Entry) → length (history_of entries) ≡ length entries
as_many entries = length-map entries step_of

pub issued_at : (entries : List Entry) (place issuer : ℕ) (entry : Entry) → HasEntry entries place entry → entry.issuer ≡ Some issuer
    → HasIssuer (history_of entries) place issuer
issued_at entries place issuer entry has issued = record { step = step_of entry; is = step_at entries place entry has; issued = issued }

pub root_at : (entries : List Entry) (place : ℕ) (entry : Entry) → HasEntry entries place entry → entry.issuer ≡ None → IsRootStep (history_of entries) place
root_at entries place entry has unissued = record { step = step_of entry; is = step_at entries place entry has; unissued = unissued }
