-- Signatures by a certificate of an issuing history: what a signature contains, under which policy it
-- is checked, and what is reported if it is accepted (RFC 5280 6.1).
use Rattle.std.specs.Prelude.{⊤, ℕ, ℤ, suc, List, [], ◌∷◌, Some}
use Rattle.asn1_types.specs.declared.generalized_time.GeneralizedTime.{GeneralizedTime}
use Rattle.key_core.specs.Verifying.{Judge}
use Rattle.x509_core.specs.History.{IssuingStep, History, HasStep, AreIssuers, IsDuring}
use Rattle.x509_core.specs.Issued.{HasCert, AreCertsAt, IsIssued}
use Rattle.x509_core.specs.OwnedCertificate.{KeptCertificate}
use Rattle.x509_core.specs.declared.window.DateCheck.TheVariants as dates
use Rattle.authenticode_core.specs.Names.{HasSubject}
use Rattle.authenticode_core.specs.Policy.{first_policy}
use Rattle.authenticode_core.specs.declared.accepted.Accepted.{Accepted}
use Rattle.authenticode_core.specs.declared.accepted.Excuse.TheVariants as excuses
use Rattle.authenticode_core.specs.declared.policy.Policy.{Policy}

-- none of the parents has the subject of the certificate
abbrev pub HaveOtherSubjects : KeptCertificate → (parents : List KeptCertificate) → Type 0
HaveOtherSubjects cert [] = ⊤
HaveOtherSubjects cert (parent ∷ parents) =
    (HasSubject cert.elements.tbs.subject parent.elements → ⊥) × HaveOtherSubjects cert parents

-- The certificates were issued by the history. This one is valid at the date, as recorded, and the
-- parents are its nearest ancestors, however many, of which none has its subject.
pub record IsSignerOf (judge : Judge) (history : History) (certificates : List KeptCertificate)
    (date : GeneralizedTime) (issuers : List ℕ) (cert : KeptCertificate)
    (parents : List KeptCertificate) : Type 0 where
  pub issued : IsIssued judge history certificates
  pub index : ℕ
  pub step : IssuingStep
  pub has : HasStep history index step
  pub valid : IsDuring step date
  pub is : HasCert certificates index cert
  pub under : AreIssuers history index issuers
  pub are : AreCertsAt certificates issuers parents
  pub others : HaveOtherSubjects cert parents

-- all checks at the date, for this digest of the file, without a trust list or excluded names; so the
-- time at which a list would count is of no matter
abbrev pub all_checks_at : GeneralizedTime → (now : ℤ) → (file_hash : List ℕ) → Policy
all_checks_at date now file_hash =
    record first_policy { file_hash = Some file_hash; date = dates.Exact date; now = now }

-- consecutive indices from one on, as many as the list is long
abbrev pub indices_from : {A : Type 0} → ℕ → List A → List ℕ
indices_from index [] = []
indices_from index (x ∷ others) = index ∷ indices_from (suc index) others

-- the first certificate is the signer's, and its path all others, without an excuse
abbrev pub by_the_first_over : {A : Type 0} → (parents : List A) → Accepted
by_the_first_over parents =
    record { signer = Some 0; path = indices_from 1 parents; excuse = excuses.None }
