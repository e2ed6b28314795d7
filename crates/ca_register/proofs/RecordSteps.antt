-- What the entries decide of an issuer has one answer, which is no refusal of a key.
use Rattle.std.proofs.Common.{◌≡◌, ◌<◌, ◌≤◌, ◌⊎◌, ℕ, List, [], ◌∷◌, length, inl, inr, sym, ap, subst, ◌∙◌, arith}
use Rattle.std.proofs.lemmas.Bool.{cases_lt, false≢true}
use Rattle.der_core.specs.Steps.{AreTaken, IsFirstUntaken, Step}
use Rattle.der_core.proofs.TakenSteps.{HasOneError, HaveOneError}
use Rattle.key_core.specs.declared.signature_error.SignatureError.{SignatureError}
use Rattle.x509_core.proofs.Histories.{ancestors_once}
use Rattle.x509_core.proofs.Validity.{same_some}
use Rattle.ca_register.specs.Entries.{history_of}
use Rattle.ca_register.specs.Issuing.{AreAbove, IsFirstTooShort, IsTooShort, authority_step, depth_step, issuer_step, record_steps}
use Rattle.ca_register.specs.declared.entry.Entry.{Entry}
use Rattle.ca_register.specs.declared.error.IssueError.TheVariants as errors

-- ---- steps with one error each

pub taken_untaken : {E : Type 0} (a : List (Step E)) (e : E) → HaveOneError a → AreTaken a → IsFirstUntaken a e → ⊥
taken_untaken [] e have taken first = first
taken_untaken (step ∷ a) e have taken (inl refused) = have.0.none e taken.0 refused
taken_untaken (step ∷ a) e have taken (inr (again, first)) = taken_untaken a e have.1 taken.1 first

pub one_untaken : {E : Type 0} (a : List (Step E)) (e other : E) → HaveOneError a → IsFirstUntaken a e → IsFirstUntaken a other → e ≡ other
one_untaken [] e other have first second = absurd first
one_untaken (step ∷ a) e other have (inl x) (inl y) = have.0.one e other x y
one_untaken (step ∷ a) e other have (inl x) (inr (taken, second)) = absurd (have.0.none e taken x)
one_untaken (step ∷ a) e other have (inr (taken, first)) (inl y) = absurd (have.0.none other taken y)
one_untaken (step ∷ a) e other have (inr (taken, first)) (inr (again, second)) = one_untaken a e other have.1 first second

-- ---- the steps that the entries decide

no_issuer_key : (source : SignatureError) (issuer len : ℕ) → errors.WrongKey source ≡ errors.NoIssuer issuer len → ⊥
no_issuer_key source issuer len e = absurd cc

no_ca_key : (source : SignatureError) → errors.WrongKey source ≡ errors.NotCa → ⊥
no_ca_key source e = absurd cc

no_depth_key : (source : SignatureError) (number : ℕ) → errors.WrongKey source ≡ errors.TooDeep number → ⊥
no_depth_key source number e = absurd cc

module _ (entries : List Entry) (issuer : ℕ) where
  one_issuer : HasOneError (issuer_step entries issuer)
  one_issuer = record {
    one = λ e other x y. x.1 ∙ sym y.1;
    none = λ e taken x. omega (arith, taken, x.0);
  }

  one_authority : HasOneError (authority_step entries issuer)
  one_authority = record {
    one = λ e other x y. x.3 ∙ sym y.3;
    none = λ e taken x.
        let same : taken.0 ≡ x.0 = same_some taken.0 x.0 (sym taken.1 ∙ x.1) in
        false≢true (sym x.2 ∙ ap (λ (entry : Entry). entry.grant.ca) (sym same) ∙ taken.2);
  }

  same_line : (a b : List ℕ) → AreAbove entries issuer a → AreAbove entries issuer b → a ≡ b
  same_line a b x y =
      x.is ∙ ap (λ (ancestors : List ℕ). issuer ∷ ancestors) (ancestors_once (history_of entries) issuer x.ancestors y.ancestors x.are y.are) ∙ sym y.is

  not_nearer : (number other : ℕ) (x : IsFirstTooShort entries issuer number) (y : IsFirstTooShort entries issuer other) → number < other → ⊥
  not_nearer number other x y nearer =
      y.first number nearer (subst (λ (line : List ℕ). IsTooShort entries line number) (same_line x.line y.line x.above y.above) x.short)

  one_number : (number other : ℕ) → IsFirstTooShort entries issuer number → IsFirstTooShort entries issuer other → number ≡ other
  one_number number other x y = by (cases_lt number other) (cases_lt other number)
    where
      by : (number < other) ⊎ (other ≤ number) → (other < number) ⊎ (number ≤ other) → number ≡ other
      by (inl nearer) q = absurd (not_nearer number other x y nearer)
      by (inr far) (inl nearer) = absurd (not_nearer other number y x nearer)
      by (inr far) (inr close) = omega (arith, far, close)

  one_depth : HasOneError (depth_step entries issuer)
  one_depth = record {
    one = λ e other x y. x.2 ∙ ap errors.TooDeep (one_number x.0 y.0 x.1 y.1) ∙ sym y.2;
    none = λ e taken x. taken x.1.line x.0 x.1.above x.1.short;
  }

  pub record_steps_decide : HaveOneError (record_steps entries issuer)
  record_steps_decide = (one_issuer, (one_authority, (one_depth, tt)))

  pub record_is_no_key : (source : SignatureError) → IsFirstUntaken (record_steps entries issuer) (errors.WrongKey source) → ⊥
  record_is_no_key source (inl x) = no_issuer_key source issuer (length entries) x.1
  record_is_no_key source (inr (taken, inl x)) = no_ca_key source x.3
  record_is_no_key source (inr (taken, inr (able, inl x))) = no_depth_key source x.0 x.2
  record_is_no_key source (inr (taken, inr (able, inr (deep, none)))) = none
