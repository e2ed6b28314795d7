-- Signatures that are made with a certificate of an issuing history and all its ancestors: which of
-- these a signature keeps, and when its file is accepted (RFC 5280 6.1).
use Rattle.std.specs.Prelude.{◌≡◌, ◌⊎◌, ⊤, ℕ, List, [], ◌∷◌, ◌++◌, IsTrue, Result, Ok, IfOk}
use Rattle.asn1_types.specs.declared.generalized_time.GeneralizedTime.{GeneralizedTime}
use Rattle.der_core.specs.Rules.{AreOneUnlessMemory}
use Rattle.key_core.specs.Verifying.{Judge}
use Rattle.x509_core.specs.History.{IssuingStep, History, HasStep, AreAncestors, AreAllowed}
use Rattle.x509_core.specs.Issued.{HasCert, AreCertsAt, IsIssued}
use Rattle.x509_core.specs.OwnedCertificate.{KeptCertificate}
use Rattle.authenticode_core.specs.declared.accepted.Accepted.{Accepted}
use Rattle.authenticode_core.specs.declared.error.CheckError.{CheckError}
use Rattle.authenticode_core.specs.declared.error.CheckError.TheVariants.{Memory}
use Rattle.authenticode_signature.specs.HistorySignature.{HaveOtherSubjects, by_the_first_over}

-- no two of the certificates have one subject
abbrev pub HaveDistinctSubjects : List KeptCertificate → Type 0
HaveDistinctSubjects [] = ⊤
HaveDistinctSubjects (cert ∷ others) = HaveOtherSubjects cert others × HaveDistinctSubjects others

-- The certificates were issued by the history. The parents are all ancestors of this one, the
-- nearest first, and no two of them and it have one subject.
pub record IsWithAncestors (judge : Judge) (history : History) (certificates : List KeptCertificate)
    (index : ℕ) (ancestors : List ℕ) (cert : KeptCertificate)
    (parents : List KeptCertificate) : Type 0 where
  pub issued : IsIssued judge history certificates
  pub above : AreAncestors history index ancestors
  pub is : HasCert certificates index cert
  pub are : AreCertsAt certificates ancestors parents
  pub distinct : HaveDistinctSubjects (cert ∷ parents)

-- the step at the index is that of a CA
abbrev pub IsOfAuthority : History → ℕ → Type 0
IsOfAuthority history index = (step : IssuingStep) × HasStep history index step × IsTrue step.ca

-- the last of the ancestors isn't that of a CA, if there is one
abbrev pub HasNoAuthorityLast : History → List ℕ → Type 0
HasNoAuthorityLast history ancestors =
    (before : List ℕ) (root : ℕ) → ancestors ≡ before ++ root ∷ [] → IsOfAuthority history root
    → ⊥

-- Of all ancestors a signature keeps all but the last, the root, if that is a CA; else all.
abbrev pub AreKeptOf : History → (ancestors kept : List ℕ) → Type 0
AreKeptOf history ancestors kept =
    ((root : ℕ) × (ancestors ≡ kept ++ root ∷ []) × IsOfAuthority history root)
    ⊎ ((kept ≡ ancestors) × HasNoAuthorityLast history ancestors)

-- The result of a check is that the signature is accepted exactly where the history allows each of
-- the kept ancestors at the date, out of memory aside. They are the reported path.
pub record IsDecidedBy (history : History) (date : GeneralizedTime) (kept : List ℕ)
    (answer : Result Accepted CheckError) : Type 0 where
  pub accepted : IfOk answer
      (λ a. (a ≡ by_the_first_over kept) × AreAllowed history date kept)
  pub allowed : AreAllowed history date kept
      → AreOneUnlessMemory Memory answer (Ok (by_the_first_over kept))
