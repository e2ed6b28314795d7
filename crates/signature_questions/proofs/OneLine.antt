-- There is one line to report about files.
use Rattle.std.proofs.Common.{◌≡◌, ℕ, List, ◌∷◌, false, inl, inr, sym, ap, subst, ◌∙◌}
use Rattle.cms_types.specs.SignedDataElements.{SignedDataElements}
use Rattle.program_frame.specs.Commands.{Line}
use Rattle.x509_core.specs.OwnedCertificate.{KeptCertificate}
use Rattle.authenticode_core.specs.Basic.{HasSignedData, RefusesValue}
use Rattle.authenticode_core.specs.Policy.{first_policy}
use Rattle.authenticode_core.specs.declared.error.CheckError.{CheckError}
use Rattle.authenticode_core.specs.declared.policy.Policy.{Policy}
use Rattle.authenticode_core.proofs.OneAnswer.{FaultsAreOne, FaultsExclude, one_refusal, refused_there, value_refuses}
use Rattle.authenticode_core.proofs.OneData.{one_data}
use Rattle.signature_questions.specs.Commands.{IsChainLine, IsSignatureLine}
use Rattle.signature_questions.specs.Lines.{question_lines, refused_chain_line, refused_line}
use Rattle.signature_questions.specs.Listed.{AreOfChain, AreQuestions}
use Rattle.signature_questions.proofs.OneList.{chain_once, questions_once}
use Rattle.x509_core.proofs.OwnedOctets.{same_certificates}
use Rattle.signature_questions.proofs.ReadCauses.{none_refused, one_cause}

same_line : (a b : Line) → a.status ≡ b.status → a.text ≡ b.text → a ≡ b
same_line a b s t = λ i. record { status = s i; text = t i }

-- ---- a signature file

-- a policy without basic validation
abbrev plain : Policy
plain = record {
  basic = false;
  file_hash = first_policy.file_hash;
  signing = first_policy.signing;
  not_before = first_policy.not_before;
  not_after = first_policy.not_after;
  chain = first_policy.chain;
  date = first_policy.date;
  against_list = first_policy.against_list;
  list = first_policy.list;
  now = first_policy.now;
  exclude = first_policy.exclude;
  excluded = first_policy.excluded;
}

module _ (at_most_one : FaultsAreOne) (exclude : FaultsExclude) where
  not_refused : (octets : List ℕ) (f : SignedDataElements) (e : CheckError) → HasSignedData octets f → RefusesValue octets e → ⊥
  not_refused octets f e has refused = absurd (refused_there at_most_one exclude plain octets f e has (value_refuses plain octets e refused)).2

  pub signature_line_once : (octets : List ℕ) (a b : Line) → IsSignatureLine octets a → IsSignatureLine octets b → a ≡ b
  signature_line_once octets a b (inl (f, has, p)) (inl (g, own, q)) =
      let same = one_data octets g f own has in
      let one = questions_once f p.questions q.questions p.are (subst (λ (x : SignedDataElements). AreQuestions x q.questions) same q.are) in
      same_line a b (p.status ∙ sym q.status) (p.text ∙ ap question_lines one ∙ sym q.text)
  signature_line_once octets a b (inl (f, has, p)) (inr q) = absurd (not_refused octets f q.error has q.refuses)
  signature_line_once octets a b (inr p) (inl (g, own, q)) = absurd (not_refused octets g p.error own p.refuses)
  signature_line_once octets a b (inr p) (inr q) =
      let one = one_refusal at_most_one exclude plain octets p.error q.error (value_refuses plain octets p.error p.refuses)
      (value_refuses plain octets q.error q.refuses) in
      same_line a b (p.status ∙ sym q.status) (p.text ∙ ap refused_line one ∙ sym q.text)

-- ---- a chain

first_kept : (c d : KeptCertificate) (cs ds : List KeptCertificate) → c ∷ cs ≡ d ∷ ds → c ≡ d
first_kept c d cs ds are = cc

others_kept : (c d : KeptCertificate) (cs ds : List KeptCertificate) → c ∷ cs ≡ d ∷ ds → cs ≡ ds
others_kept c d cs ds are = cc

pub chain_line_once : (octets : List (List ℕ)) (a b : Line) → IsChainLine octets a → IsChainLine octets b → a ≡ b
chain_line_once octets a b (inl (c, cs, are, p)) (inl (d, ds, own, q)) =
    let same = same_certificates (d ∷ ds) (c ∷ cs) (own ∙ sym are) in
    let of_chain : AreOfChain c cs q.questions =
    subst (λ (x : KeptCertificate). AreOfChain x cs q.questions) (first_kept d c ds cs same)
    (subst (λ (xs : List KeptCertificate). AreOfChain d xs q.questions) (others_kept d c ds cs same) q.are) in
    same_line a b (p.status ∙ sym q.status) (p.text ∙ ap question_lines (chain_once c cs p.questions q.questions p.are of_chain) ∙ sym q.text)
chain_line_once octets a b (inl (c, cs, are, p)) (inr q) = absurd (none_refused octets (c ∷ cs) q.error are q.refuses)
chain_line_once octets a b (inr p) (inl (d, ds, own, q)) = absurd (none_refused octets (d ∷ ds) p.error own p.refuses)
chain_line_once octets a b (inr p) (inr q) =
    same_line a b (p.status ∙ sym q.status) (p.text ∙ ap refused_chain_line (one_cause octets p.error q.error p.refuses q.refuses) ∙ sym q.text)
