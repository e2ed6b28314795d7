use Rattle.std.proofs.Common.{◌≡◌, Bool, List, rules, subst}
use Rattle.std.specs.Bool.{Decides}
use Rattle.std.specs.Cmp.Lexicographic.{pointwise}
use Rattle.std.proofs.lemmas.Slice.Eq.{slice_eq-Decides}
use Rattle.sig_core.specs.declared.verdict_row.VerdictRow.{VerdictRow}
use Rattle.sig_core.proofs.verdict_table.VerdictTablePartialEq.eq.Goals as goal

-- what a test of the rows says of the tables that contracts see as them
returned : {E : VerdictRow → VerdictRow → Bool} → ((x y : VerdictRow) → Decides (E x y) (x ≡ y))
    → (xs ys a b : List VerdictRow) (r : Bool) → xs ≡ a → ys ≡ b → r ≡ pointwise E xs ys → Decides r (a ≡ b)
returned {E} decides xs ys a b r seen seen' test =
    let P : List VerdictRow → List VerdictRow → Type 0 = λ v w. Decides r (v ≡ w) in
    subst (λ w. P a w) seen' (subst (λ v. P v ys) seen (slice_eq-Decides decides xs ys r test))

pub returns-clause-same : goal.returns-clause-same
returns-clause-same c = returned (λ a b. search rules) _ _ _ _ c.eq.result c.self.view_is c.other.view_is c.eq.ensures
