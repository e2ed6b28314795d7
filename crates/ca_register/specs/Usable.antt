-- From when to when a certificate of a register is usable, by the entries alone (RFC 5280 6.1.3 (a)
-- (2)): while its own validity and that of each ancestor last.
use Rattle.std.specs.Prelude.{◌≡◌, ℕ, List, ◌∷◌, Some}
use Rattle.std.specs.List.{slice_get}
use Rattle.asn1_types.specs.declared.generalized_time.GeneralizedTime.{GeneralizedTime}
use Rattle.x509_core.specs.History.{AreAncestors}
use Rattle.x509_core.specs.Window.{IsEarlier}
use Rattle.ca_register.specs.Entries.{HasEntry, history_of}
use Rattle.ca_register.specs.declared.entry.Entry.{Entry}

-- the entry is at one of these indices
pub record IsAmong (entries : List Entry) (places : List ℕ) (entry : Entry) : Type 0 where
  pub index : ℕ
  pub place : ℕ
  pub at : slice_get places index ≡ Some place
  pub has : HasEntry entries place entry

-- One of the entries begins at the moment, and none later.
pub record IsLatestFrom (entries : List Entry) (places : List ℕ)
    (moment : GeneralizedTime) : Type 0 where
  pub latest : Entry
  pub is : IsAmong entries places latest
  pub from : latest.grant.from ≡ moment
  pub none_later : (entry : Entry) → IsAmong entries places entry
      → IsEarlier moment entry.grant.from → ⊥

-- One of the entries ends at the moment, and none earlier.
pub record IsEarliestTo (entries : List Entry) (places : List ℕ)
    (moment : GeneralizedTime) : Type 0 where
  pub earliest : Entry
  pub is : IsAmong entries places earliest
  pub to : earliest.grant.to ≡ moment
  pub none_earlier : (entry : Entry) → IsAmong entries places entry
      → IsEarlier entry.grant.to moment → ⊥

-- The latest first second and the earliest last second of the entry at an index and of its
-- ancestors.
pub record IsUsable (entries : List Entry) (place : ℕ) (from to : GeneralizedTime) : Type 0 where
  pub ancestors : List ℕ
  pub are : AreAncestors (history_of entries) place ancestors
  pub begins : IsLatestFrom entries (place ∷ ancestors) from
  pub ends : IsEarliestTo entries (place ∷ ancestors) to

-- The date is between these, both included.
pub record IsBetween (from to date : GeneralizedTime) : Type 0 where
  pub begun : IsEarlier date from → ⊥
  pub lasts : IsEarlier to date → ⊥
