use Rattle.std.proofs.Common.{rules, ◌≡◌, ◌↔◌, List, ℕ, arith, sym, ap, ◌∙◌}
use Rattle.std.specs.Cmp.{Equal-is}
use Rattle.std.specs.Cmp.Lexicographic.{slice_cmp}
use Rattle.std.specs.Ordering.{nat_cmp}
use Rattle.std.specs.declared.cmp.Ordering.TheVariants.{Equal}
use Rattle.std.proofs.lemmas.Bool.Decides.{nat_tests}
use Rattle.std.proofs.lemmas.Grind.{common_steps}
use Rattle.std.proofs.lemmas.Map.Text.{is_eq-slice_cmp}
use Rattle.std.proofs.lemmas.Slice.Eq.{bytes_eq-Decides}
use Rattle.asn1_types.specs.Time.{generalized_fields}
use Rattle.asn1_types.specs.Facts.Times.{same_generalized}
use Rattle.names_core.proofs.laws.dates_are_their_fields.Goals as goal

-- A list compares as equal only to itself.
tied_lists : (xs ys : List ℕ) → (slice_cmp nat_cmp xs ys ≡ Equal) ↔ (xs ≡ ys)
tied_lists xs ys =
    let same = bytes_eq-Decides xs ys in
    let tied = Equal-is (slice_cmp nat_cmp xs ys) in
    (λ e. same.0 (sym (is_eq-slice_cmp xs ys) ∙ tied.1 e), λ e. tied.0 (is_eq-slice_cmp xs ys ∙ same.1 e))

pub returns-clause-order : goal.returns-clause-order
returns-clause-order c a b = search rules

pub returns-clause-tied : goal.returns-clause-tied
returns-clause-tied c a b =
    let order = returns-clause-order c a b in
    let lists = tied_lists (generalized_fields a) (generalized_fields b) in
    (λ e. same_generalized a b (lists.0 (sym order ∙ e)), λ e. order ∙ lists.1 (ap generalized_fields e))

pub returns-clause-equal : goal.returns-clause-equal
returns-clause-equal c a b = (
  λ e. let fields : generalized_fields a ≡ generalized_fields b = grind (arith, nat_tests, common_steps) in same_generalized a b fields,
  λ e. grind (arith, nat_tests, common_steps),
)
