-- What is true of every register.
use Rattle.std.specs.Prelude.{◌≡◌, ◌≤◌, ℕ, IsTrue, List, Some}
use Rattle.std.specs.List.{slice_get}
use Rattle.key_core.specs.Verifying.{Judge}
use Rattle.x509_core.specs.History.{AreAncestors, History, HasStep, IsRootStep, IssuingStep}
use Rattle.x509_core.specs.Issued.{IsIssued}
use Rattle.x509_core.specs.OwnedCertificate.{KeptCertificate}
use Rattle.ca_register.specs.Entries.{history_of}
use Rattle.ca_register.specs.declared.entry.Entry.{Entry}

-- The step is that of a CA, whose path length, if any, allows so many certificates between its own
-- and the end of a path (RFC 5280 4.2.1.9).
pub record IsAuthority (number : ℕ) (step : IssuingStep) : Type 0 where
  pub authority : IsTrue step.ca
  pub depth : (limit : ℕ) → step.pathlen ≡ Some limit → number ≤ limit

-- each of these is the index of such a CA, numbered from 0 by those before it
abbrev pub AreAuthorities : History → List ℕ → Type 0
AreAuthorities history places =
    (number place : ℕ) (step : IssuingStep) → slice_get places number ≡ Some place
    → HasStep history place step → IsAuthority number step

-- The entries and the certificates of a register: the history of the entries issued the
-- certificates, each ancestor of an entry is a CA whose path length allows for the certificates
-- between, and each root is a CA.
pub record IsRegister (judge : Judge) (entries : List Entry)
    (certificates : List KeptCertificate) : Type 0 where
  pub issued : IsIssued judge (history_of entries) certificates
  pub allowed : (place : ℕ) (ancestors : List ℕ) → AreAncestors (history_of entries) place ancestors
      → AreAuthorities (history_of entries) ancestors
  pub rooted : (place : ℕ) (root : IsRootStep (history_of entries) place) → IsTrue root.step.ca
