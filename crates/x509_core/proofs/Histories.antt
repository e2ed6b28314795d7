-- Each step of a history has one list of ancestors.
use Rattle.std.proofs.Common.{◌≡◌, ◌<◌, ◌≤◌, ◌⊎◌, ℕ, zero, suc, ◌+◌, List, [], ◌∷◌, length, get_or}
use Rattle.std.proofs.Common.{Option, Some, None, inl, inr, refl, sym, ap, subst, ◌∙◌, arith}
use Rattle.std.specs.List.{slice_get}
use Rattle.std.proofs.lemmas.Option.{slice_get_cases}
use Rattle.x509_core.specs.History.{IssuingStep, History, HasStep, HasIssuer, IsRootStep, IsOrdered, AreAncestors}
use Rattle.x509_core.proofs.Validity.{same_some}

none_is_some : {A : Type 0} (x : A) → None ≡ Some x → ⊥
none_is_some x e = absurd cc

-- what is at an index within the list
pub item_at : {A : Type 0} (items : List A) (index : ℕ) → index < length items → (item : A) × (slice_get items index ≡ Some item)
item_at {A} items index within = by (slice_get_cases items index).1
  where
    by : ((x : A) × (index < length items) × (slice_get items index ≡ Some x) × (get_or items index x ≡ x))
        ⊎ ((length items ≤ index) × (slice_get items index ≡ None)) → (item : A) × (slice_get items index ≡ Some item)
    by (inl found) = (found.0, found.2)
    by (inr past) =
        let none : ⊥ = omega (arith, within, past.0) in
        absurd none

pub step_once : (history : History) (index : ℕ) (a b : IssuingStep) → HasStep history index a → HasStep history index b → a ≡ b
step_once history index a b p q = same_some a b (sym p ∙ q)

pub issuer_once : (history : History) (index i j : ℕ) → HasIssuer history index i → HasIssuer history index j → i ≡ j
issuer_once history index i j p q =
    same_some i j (sym p.issued ∙ ap (λ (s : IssuingStep). s.issuer) (step_once history index p.step q.step p.is q.is) ∙ q.issued)

pub root_is_not_issued : (history : History) (index issuer : ℕ) → IsRootStep history index → HasIssuer history index issuer → ⊥
root_is_not_issued history index issuer p q =
    none_is_some issuer (sym p.unissued ∙ ap (λ (s : IssuingStep). s.issuer) (step_once history index p.step q.step p.is q.is) ∙ q.issued)

pub ancestors_once : (history : History) (index : ℕ) (a b : List ℕ) → AreAncestors history index a → AreAncestors history index b → a ≡ b
ancestors_once history index [] [] p q = refl
ancestors_once history index [] (j ∷ b) p q = absurd (root_is_not_issued history index j p.1 q.0.0)
ancestors_once history index (i ∷ a) [] p q = absurd (root_is_not_issued history index i q.1 p.0.0)
ancestors_once history index (i ∷ a) (j ∷ b) p q =
    let same = issuer_once history index i j p.0.0 q.0.0 in
    let first : AreAncestors history j a = subst (λ (k : ℕ). AreAncestors history k a) same (p.0.1, p.1) in
    ap (λ (k : ℕ). k ∷ a) same ∙ ap (λ (rest : List ℕ). j ∷ rest) (ancestors_once history j a b first (q.0.1, q.1))

abbrev Line : History → ℕ → Type 0
Line history index = (ancestors : List ℕ) × AreAncestors history index ancestors

-- a root has none, another step those of its issuer and the issuer
line_with : (history : History) → IsOrdered history → (bound index : ℕ) (step : IssuingStep) → HasStep history index step
    → ((issuer : ℕ) → issuer < bound → issuer < length history → Line history issuer)
    → (issuer : Option ℕ) → step.issuer ≡ issuer → index < suc bound → index < length history → Line history index
line_with history ordered bound index step is lines None unissued below within = ([], (tt, record { step = step; is = is; unissued = unissued }))
line_with history ordered bound index step is lines (Some issuer) issued below within =
    let has : HasIssuer history index issuer = record { step = step; is = is; issued = issued } in
    let earlier = ordered index issuer has in
    let line = lines issuer (omega (arith, earlier, below)) (omega (arith, earlier, within)) in
    (issuer ∷ line.0, ((has, line.1.0), line.1.1))

line_below : (history : History) → IsOrdered history → (bound index : ℕ) → index < bound → index < length history → Line history index
line_below history ordered zero index below within =
    let none : ⊥ = omega (arith, below) in
    absurd none
line_below history ordered (suc bound) index below within =
    let found = item_at history index within in
    line_with history ordered bound index found.0 found.1 (line_below history ordered bound) found.0.issuer refl below within

pub line_of : (history : History) (index : ℕ) → IsOrdered history → index < length history → Line history index
line_of history index ordered within = line_below history ordered (index + 1) index (omega arith) within
