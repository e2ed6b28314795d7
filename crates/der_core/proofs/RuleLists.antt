-- Rules checked in order.
use Rattle.std.proofs.Common.{◌≡◌, List, [], ◌∷◌, ◌++◌, inl, inr}
use Rattle.std.specs.Prelude.{⊤}
use Rattle.der_core.specs.Rules.{IsMet, IsFirstBroken}

-- each rule is met
abbrev pub AreMet : {E : Type 0} → List (E → Type 0) → Type 0
AreMet [] = ⊤
AreMet (rule ∷ rules) = IsMet rule × AreMet rules

-- at most one error reports that a rule is broken
abbrev pub IsReturnedOnce : {E : Type 0} → (E → Type 0) → Type 0
IsReturnedOnce {E} rule = (a b : E) → rule a → rule b → a ≡ b

abbrev pub AreReturnedOnce : {E : Type 0} → List (E → Type 0) → Type 0
AreReturnedOnce [] = ⊤
AreReturnedOnce (rule ∷ rules) = IsReturnedOnce rule × AreReturnedOnce rules

pub one_broken : {E : Type 0} (rules : List (E → Type 0)) → AreReturnedOnce rules → (a b : E) → IsFirstBroken rules a → IsFirstBroken rules b → a ≡ b
one_broken [] once a b p q = absurd p
one_broken (rule ∷ rules) once a b (inl p) (inl q) = once.0 a b p q
one_broken (rule ∷ rules) once a b (inl p) (inr q) = absurd (q.0 a p)
one_broken (rule ∷ rules) once a b (inr p) (inl q) = absurd (p.0 b q)
one_broken (rule ∷ rules) once a b (inr p) (inr q) = one_broken rules once.1 a b p.1 q.1

pub none_broken : {E : Type 0} (rules : List (E → Type 0)) → AreMet rules → (e : E) → IsFirstBroken rules e → ⊥
none_broken [] met e p = p
none_broken (rule ∷ rules) met e (inl p) = met.0 e p
none_broken (rule ∷ rules) met e (inr p) = none_broken rules met.1 e p.1

-- the rules before others
pub broken_before : {E : Type 0} (rules others : List (E → Type 0)) (e : E) → IsFirstBroken rules e → IsFirstBroken (rules ++ others) e
broken_before [] others e p = absurd p
broken_before (rule ∷ rules) others e (inl p) = inl p
broken_before (rule ∷ rules) others e (inr p) = inr (p.0, broken_before rules others e p.1)

-- more rules after the last don't change what is broken before them
pub early_in : {E : Type 0} (rules : List (E → Type 0)) (last : E → Type 0)
    (more : List (E → Type 0)) (e : E) → IsFirstBroken (rules ++ last ∷ []) e
    → IsFirstBroken (rules ++ last ∷ more) e
early_in [] last more e (inl broken) = inl broken
early_in [] last more e (inr none) = absurd none.1
early_in (rule ∷ rules) last more e (inl broken) = inl broken
early_in (rule ∷ rules) last more e (inr later) = inr (later.0, early_in rules last more e later.1)

pub broken_behind : {E : Type 0} (rules others : List (E → Type 0)) (e : E) → AreMet rules → IsFirstBroken others e → IsFirstBroken (rules ++ others) e
broken_behind [] others e met p = p
broken_behind (rule ∷ rules) others e met p = inr (met.0, broken_behind rules others e met.1 p)

pub left_broken : {E : Type 0} (rules others : List (E → Type 0)) (e : E) → AreMet rules → IsFirstBroken (rules ++ others) e → IsFirstBroken others e
left_broken [] others e met p = p
left_broken (rule ∷ rules) others e met (inl p) = absurd (met.0 e p)
left_broken (rule ∷ rules) others e met (inr p) = left_broken rules others e met.1 p.1

-- an error that none of them reports
abbrev pub NoneReturns : {E : Type 0} → List (E → Type 0) → E → Type 0
NoneReturns [] e = ⊤
NoneReturns (rule ∷ rules) e = (rule e → ⊥) × NoneReturns rules e

pub none_returns : {E : Type 0} (rules : List (E → Type 0)) (e : E) → NoneReturns rules e → IsFirstBroken rules e → ⊥
none_returns [] e none p = p
none_returns (rule ∷ rules) e none (inl p) = none.0 p
none_returns (rule ∷ rules) e none (inr p) = none_returns rules e none.1 p.1

pub one_of_two : {E : Type 0} (rule : E → Type 0) (rules : List (E → Type 0)) → IsReturnedOnce rule
    → ((a b : E) → IsFirstBroken rules a → IsFirstBroken rules b → a ≡ b)
    → (a b : E) → IsFirstBroken (rule ∷ rules) a → IsFirstBroken (rule ∷ rules) b → a ≡ b
one_of_two rule rules once others a b (inl p) (inl q) = once a b p q
one_of_two rule rules once others a b (inl p) (inr q) = absurd (q.0 a p)
one_of_two rule rules once others a b (inr p) (inl q) = absurd (p.0 b q)
one_of_two rule rules once others a b (inr p) (inr q) = others a b p.1 q.1

pub returned_together : {E : Type 0} (rules others : List (E → Type 0)) → AreReturnedOnce rules → AreReturnedOnce others → AreReturnedOnce (rules ++ others)
returned_together [] others p q = q
returned_together (rule ∷ rules) others p q = (p.0, returned_together rules others p.1 q)

pub met_together : {E : Type 0} (rules others : List (E → Type 0)) → AreMet rules → AreMet others → AreMet (rules ++ others)
met_together [] others p q = q
met_together (rule ∷ rules) others p q = (p.0, met_together rules others p.1 q)

pub none_together : {E : Type 0} (rules others : List (E → Type 0)) (e : E) → NoneReturns rules e → NoneReturns others e → NoneReturns (rules ++ others) e
none_together [] others e p q = q
none_together (rule ∷ rules) others e p q = (p.0, none_together rules others e p.1 q)
