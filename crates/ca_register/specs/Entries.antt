-- The entries of a register as an issuing history: a step for each.
use Rattle.std.specs.Prelude.{◌≡◌, ℕ, List, Some, map}
use Rattle.std.specs.List.{slice_get}
use Rattle.x509_core.specs.History.{IssuingStep, History}
use Rattle.ca_register.specs.declared.entry.Entry.{Entry}

-- the entry at an index, counted from 0
abbrev pub HasEntry : List Entry → ℕ → Entry → Type 0
HasEntry entries place entry = slice_get entries place ≡ Some entry

-- the step of an entry
abbrev pub step_of : Entry → IssuingStep
step_of entry = record {
  issuer = entry.issuer;
  ca = entry.grant.ca;
  pathlen = entry.grant.path_length;
  not_before = entry.grant.from;
  not_after = entry.grant.to;
}

-- the history of a register: the steps of its entries
abbrev pub history_of : List Entry → History
history_of = map step_of
