-- Issuing histories: what a CA records of the certificates that it issued, a step for each, in
-- order. `IsValidAt` says from these records alone whether a certificate is accepted at a date with
-- all its ancestors (RFC 5280 6.1): the date is in each validity (4.1.2.5), CA flags and path
-- lengths allow it (4.2.1.9), and the root is a CA. No certificate is read.
use Rattle.std.specs.Prelude.{◌≡◌, ◌<◌, ◌≤◌, ⊤, ℕ, Bool, IsTrue, List, [], ◌∷◌, Option, Some, None}
use Rattle.std.specs.List.{slice_get}
use Rattle.asn1_types.specs.declared.generalized_time.GeneralizedTime.{GeneralizedTime}
use Rattle.x509_core.specs.Chain.{last_of}
use Rattle.x509_core.specs.Window.{IsEarlier}

-- A step: the index of the step that issued its certificate, none if the certificate is
-- self-signed; the CA flag and the path length, if any; the first and the last second of the
-- validity.
pub record IssuingStep : Type 0 where
  pub issuer : Option ℕ
  pub ca : Bool
  pub pathlen : Option ℕ
  pub not_before : GeneralizedTime
  pub not_after : GeneralizedTime

-- the steps, in the order of issuing
abbrev pub History : Type 0
History = List IssuingStep

-- the step at an index, counted from 0
abbrev pub HasStep : History → ℕ → IssuingStep → Type 0
HasStep history index step = slice_get history index ≡ Some step

-- The step at an index is issued by the one at another.
pub record HasIssuer (history : History) (index issuer : ℕ) : Type 0 where
  pub step : IssuingStep
  pub is : HasStep history index step
  pub issued : step.issuer ≡ Some issuer

-- The step at an index is a root.
pub record IsRootStep (history : History) (index : ℕ) : Type 0 where
  pub step : IssuingStep
  pub is : HasStep history index step
  pub unissued : step.issuer ≡ None

-- each issuer is an earlier step
abbrev pub IsOrdered : History → Type 0
IsOrdered history = (index issuer : ℕ) → HasIssuer history index issuer → issuer < index

-- the nearest ancestors of a step, by their indices: its issuer, that one's issuer, and so on
abbrev pub AreIssuers : History → ℕ → List ℕ → Type 0
AreIssuers history index [] = ⊤
AreIssuers history index (issuer ∷ issuers) =
    HasIssuer history index issuer × AreIssuers history issuer issuers

-- all ancestors of a step, the nearest first, up to its root; a root has none
abbrev pub AreAncestors : History → ℕ → List ℕ → Type 0
AreAncestors history index ancestors =
    AreIssuers history index ancestors × IsRootStep history (last_of index ancestors)

-- The date is in the validity of the step, both ends included (RFC 5280 4.1.2.5).
pub record IsDuring (step : IssuingStep) (date : GeneralizedTime) : Type 0 where
  pub begun : IsEarlier date step.not_before → ⊥
  pub lasts : IsEarlier step.not_after date → ⊥

-- At the date, the certificate of the step may be on a path with this number of certificates
-- between it and the end of the path (RFC 5280 4.2.1.9).
pub record IsAllowed (date : GeneralizedTime) (number : ℕ) (step : IssuingStep) : Type 0 where
  pub authority : IsTrue step.ca
  pub depth : (limit : ℕ) → step.pathlen ≡ Some limit → number ≤ limit
  pub valid : IsDuring step date

-- each ancestor may be on the path, numbered from 0 by the ancestors before it
abbrev pub AreAllowed : History → GeneralizedTime → List ℕ → Type 0
AreAllowed history date ancestors =
    (number ancestor : ℕ) (step : IssuingStep) → slice_get ancestors number ≡ Some ancestor
    → HasStep history ancestor step → IsAllowed date number step

-- The certificate of a step is valid at a date, by the history: the date is in the validity of the
-- step, each ancestor allows it, and the root, its own if it is one, is a CA.
pub record IsValidAt (history : History) (index : ℕ) (date : GeneralizedTime) : Type 0 where
  pub step : IssuingStep
  pub is : HasStep history index step
  pub valid : IsDuring step date
  pub ancestors : List ℕ
  pub are : AreAncestors history index ancestors
  pub allowed : AreAllowed history date ancestors
  pub rooted : (root : IssuingStep) → HasStep history (last_of index ancestors) root
      → IsTrue root.ca
