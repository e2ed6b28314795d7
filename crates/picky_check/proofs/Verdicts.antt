-- Results for the same octets of certificates are of one kind.
use Rattle.std.proofs.Common.{◌≡◌, ◌⊎◌, ℕ, List, [], ◌∷◌, ◌++◌, Option, Some, Result, Ok, Err, inl, inr, refl, sym, ap, subst, ◌∙◌}
use Rattle.std.specs.Prelude.{codes}
use Rattle.asn1_types.specs.declared.generalized_time.GeneralizedTime.{GeneralizedTime}
use Rattle.der_core.specs.Rules.{IsFirstBroken}
use Rattle.der_core.specs.declared.error.DerError.{DerError}
use Rattle.der_core.specs.declared.error.DerError.TheVariants as der
use Rattle.key_core.specs.Verifying.{Judge}
use Rattle.key_core.specs.declared.element.Element.TheVariants as elements
use Rattle.x509_core.specs.CertRefusals.{unread}
use Rattle.x509_core.specs.ErrorName.{cert_error_name}
use Rattle.x509_core.specs.Chain.{IsAccepted, chain_rules}
use Rattle.x509_core.specs.OwnedCertificate.{KeptCertificate}
use Rattle.x509_core.proofs.OwnedOctets.{same_certificates, unread_for_memory}
use Rattle.x509_core.specs.declared.error.CertError.{CertError}
use Rattle.x509_core.specs.declared.error.CertError.TheVariants as cert
use Rattle.x509_core.specs.declared.validator.ChainChecks.{ChainChecks}
use Rattle.program_frame.specs.declared.report.Report.{Report}
use Rattle.program_frame.specs.declared.stop.Stop.{Stop}
use Rattle.picky_check.specs.Commands.{IsCertificateAnswer}
use Rattle.picky_check.specs.ChainAnswer.{IsChainJudged, IsChainAnswer, all_checks}
use Rattle.x509_core.specs.OwnedCertificates.{AreKeptCertificates, IsFirstUnread}
use Rattle.picky_check.specs.Report.{Answer, OfSignature, OfChain, IsOutOfMemory, reporting}
use Rattle.program_frame.specs.Reports.{IsReported, GivesReport, Reports}
use Rattle.program_frame.proofs.Reporting.{reported_is, out_of_memory}

-- one is out of memory, or they have one name
abbrev IsNamedAlike : CertError → CertError → Type 0
IsNamedAlike e f = (e ≡ cert.Memory) ⊎ ((f ≡ cert.Memory) ⊎ (cert_error_name e ≡ cert_error_name f))

unread_name : (source : DerError)
    → (unread elements.Certificate source ≡ cert.Memory) ⊎ (cert_error_name (unread elements.Certificate source) ≡ codes "Asn1Deserialization")
unread_name (der.Malformed m) = inr refl
unread_name der.Shape = inr refl
unread_name der.TooDeep = inr refl
unread_name der.TooLong = inr refl
unread_name der.Memory = inl refl

-- octets that are no certificate are refused with this name
first_name : (octets : List (List ℕ)) (e : CertError) → IsFirstUnread octets e → (e ≡ cert.Memory) ⊎ (cert_error_name e ≡ codes "Asn1Deserialization")
first_name octets e h =
    subst (λ (x : CertError). (x ≡ cert.Memory) ⊎ (cert_error_name x ≡ codes "Asn1Deserialization")) (sym h.refused.1) (unread_name h.refused.0)

unread_alike : (octets : List (List ℕ)) (e f : CertError) → IsFirstUnread octets e → IsFirstUnread octets f → IsNamedAlike e f
unread_alike octets e f a b = elim (first_name octets e a) [
  | inl memory ↦ inl memory
  | inr name ↦ elim (first_name octets f b) [
    | inl memory ↦ inr (inl memory)
    | inr other ↦ inr (inr (name ∙ sym other))
  ]
]

-- ---- results for the same octets

wants : (e : CertError) → e ≡ cert.Memory → IsOutOfMemory (OfChain (Err e))
wants e is = subst (λ (x : CertError). IsOutOfMemory (OfChain (Err x))) (sym is) tt

accepted_parts : (judge : Judge) (date : GeneralizedTime) (octets : List (List ℕ)) (count : ℕ) → IsChainAnswer judge date octets (Ok count)
    → (certificates : List KeptCertificate) × AreKeptCertificates octets certificates × IsChainJudged judge date certificates (Ok count)
accepted_parts judge date octets count (inl unread) = absurd unread
accepted_parts judge date octets count (inr judged) = judged

one_count : (judge : Judge) (date : GeneralizedTime) (certificates : List KeptCertificate) (m n : ℕ) → IsChainJudged judge date certificates (Ok m)
    → IsChainJudged judge date certificates (Ok n) → m ≡ n
one_count judge date [] m n a b = absurd a
one_count judge date (checked ∷ parents) m n a b = a.0 ∙ sym b.0

-- what is accepted breaks no rule, and one error reports the first broken one
module _ (unbroken : (judge : Judge) (checks : ChainChecks) (checked : KeptCertificate) (given : Option (List KeptCertificate)) (e : CertError)
    → IsAccepted judge checks checked given → IsFirstBroken (chain_rules judge checks checked given) e → ⊥)
    (once : (judge : Judge) (checks : ChainChecks) (checked : KeptCertificate) (given : Option (List KeptCertificate)) (e f : CertError)
    → IsFirstBroken (chain_rules judge checks checked given) e → IsFirstBroken (chain_rules judge checks checked given) f → e ≡ f) where
  judged_alike : (judge : Judge) (date : GeneralizedTime) (certificates : List KeptCertificate) (e f : CertError)
      → IsChainJudged judge date certificates (Err e) → IsChainJudged judge date certificates (Err f) → IsNamedAlike e f
  judged_alike judge date [] e f a b = absurd a
  judged_alike judge date (checked ∷ parents) e f (inr memory) b = inl memory
  judged_alike judge date (checked ∷ parents) e f (inl a) (inr memory) = inr (inl memory)
  judged_alike judge date (checked ∷ parents) e f (inl a) (inl b) =
      inr (inr (ap cert_error_name (once judge (all_checks date) checked (Some parents) e f a b)))

  not_both : (judge : Judge) (date : GeneralizedTime) (certificates : List KeptCertificate) (count : ℕ) (e : CertError)
      → IsChainJudged judge date certificates (Ok count) → IsChainJudged judge date certificates (Err e) → e ≡ cert.Memory
  not_both judge date [] count e accepted refused = absurd accepted
  not_both judge date (checked ∷ parents) count e accepted (inl broken) = absurd (unbroken judge (all_checks date) checked (Some parents) e accepted.1 broken)
  not_both judge date (checked ∷ parents) count e accepted (inr memory) = memory

  -- what is accepted is refused only when out of memory
  refused_is_memory : (judge : Judge) (date : GeneralizedTime) (octets : List (List ℕ)) (count : ℕ) (e : CertError)
      → IsChainAnswer judge date octets (Ok count) → IsChainAnswer judge date octets (Err e) → e ≡ cert.Memory
  refused_is_memory judge date octets count e accepted (inl unread) =
      let parts = accepted_parts judge date octets count accepted in
      unread_for_memory octets parts.0 e parts.1 unread
  refused_is_memory judge date octets count e accepted (inr judged) =
      let parts = accepted_parts judge date octets count accepted in
      not_both judge date parts.0 count e parts.2
      (subst (λ (cs : List KeptCertificate). IsChainJudged judge date cs (Err e)) (same_certificates judged.0 parts.0 (judged.1 ∙ sym parts.1)) judged.2)

  same_count : (judge : Judge) (date : GeneralizedTime) (octets : List (List ℕ)) (m n : ℕ) → IsChainAnswer judge date octets (Ok m)
      → IsChainAnswer judge date octets (Ok n) → m ≡ n
  same_count judge date octets m n a b =
      let x = accepted_parts judge date octets m a in
      let y = accepted_parts judge date octets n b in
      one_count judge date x.0 m n x.2
      (subst (λ (cs : List KeptCertificate). IsChainJudged judge date cs (Ok n)) (same_certificates y.0 x.0 (y.1 ∙ sym x.1)) y.2)

  -- two refusals have one name, out of memory aside
  one_name : (judge : Judge) (date : GeneralizedTime) (octets : List (List ℕ)) (e f : CertError)
      → IsChainAnswer judge date octets (Err e) → IsChainAnswer judge date octets (Err f) → IsNamedAlike e f
  one_name judge date octets e f (inl a) (inl b) = unread_alike octets e f a b
  one_name judge date octets e f (inl a) (inr b) = inl (unread_for_memory octets b.0 e b.1 a)
  one_name judge date octets e f (inr a) (inl b) = inr (inl (unread_for_memory octets a.0 f a.1 b))
  one_name judge date octets e f (inr a) (inr b) =
      judged_alike judge date a.0 e f a.2
      (subst (λ (cs : List KeptCertificate). IsChainJudged judge date cs (Err f)) (same_certificates b.0 a.0 (b.1 ∙ sym a.1)) b.2)

  refused_alike : (e f : CertError) (result : Result Report Stop) → IsNamedAlike e f → IsReported reporting (OfChain (Err e)) result
      → (IsOutOfMemory (OfChain (Err f)) → ⊥) → IsReported reporting (OfChain (Err f)) result
  refused_alike e f result (inl memory) h other = out_of_memory reporting (OfChain (Err e)) (OfChain (Err f)) result (wants e memory) h
  refused_alike e f result (inr (inl memory)) h other = absurd (other (wants f memory))
  refused_alike e f (Ok report) (inr (inr name)) h other =
      record { reportable = other; status = h.status; line = h.line ∙ ap (λ (text : List ℕ). codes "refused " ++ text ++ 10 ∷ []) name }
  refused_alike e f (Err s) (inr (inr name)) h other = h

  given_chain : (judge : Judge) (date : GeneralizedTime) (octets : List (List ℕ)) (a b : Result ℕ CertError) (result : Result Report Stop)
      → IsReported reporting (OfChain a) result → IsChainAnswer judge date octets a → IsChainAnswer judge date octets b
      → GivesReport reporting (OfChain b) result
  given_chain judge date octets (Ok m) (Ok n) result h is also =
      λ other. (subst (λ (k : ℕ). IsReported reporting (OfChain (Ok k)) result) (same_count judge date octets m n is also) h)
  given_chain judge date octets (Ok m) (Err f) result h is also = λ other. absurd (other (wants f (refused_is_memory judge date octets m f is also)))
  given_chain judge date octets (Err e) (Ok n) result h is also =
      λ other. out_of_memory reporting (OfChain (Err e)) (OfChain (Ok n)) result (wants e (refused_is_memory judge date octets n e also is)) h
  given_chain judge date octets (Err e) (Err f) result h is also = λ other. refused_alike e f result (one_name judge date octets e f is also) h other

  given_each : (judge : Judge) (date : GeneralizedTime) (octets : List (List ℕ)) (a : Result ℕ CertError) (result : Result Report Stop)
      → IsReported reporting (OfChain a) result
      → IsChainAnswer judge date octets a → (b : Answer) → IsCertificateAnswer judge date octets b → GivesReport reporting b result
  given_each judge date octets a result h is (OfSignature b) also = absurd also
  given_each judge date octets a result h is (OfChain b) also = given_chain judge date octets a b result h is also

  pub chain_reported : (judge : Judge) (date : GeneralizedTime) (octets : List (List ℕ)) (a : Result ℕ CertError) (result : Result Report Stop)
      → IsChainAnswer judge date octets a → IsReported reporting (OfChain a) result → Reports reporting (IsCertificateAnswer judge date octets) result
  chain_reported judge date octets a result is h =
      reported_is reporting (IsCertificateAnswer judge date octets) (OfChain a) result is h (given_each judge date octets a result h is)
