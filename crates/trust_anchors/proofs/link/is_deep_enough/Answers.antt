use Rattle.std.proofs.Common.{◌≡◌, ◌≤◌, ℕ, refl, rules, subst, sym, ◌∙◌}
use Rattle.std.proofs.lemmas.Bool.{le-leb, leb-true}
use Rattle.x509_core.proofs.Depths.{path_length_once}
use Rattle.trust_anchors.proofs.link.is_deep_enough.Goals as goal

pub returns-in-Some : goal.returns-in-Some
returns-in-Some c =
    let same : c.from.result ≡ c.in-Some.limit = search rules in (
      λ test limit has.
          let one : c.in-Some.limit ≡ limit = path_length_once _ c.in-Some.limit limit c.in-Some.ensures has in
          subst (λ (n : ℕ). c.args.number ≤ n) (same ∙ one) (leb-true _ _ test),
      λ deep. le-leb _ _ (subst (λ (n : ℕ). c.args.number ≤ n) (sym same) (deep c.in-Some.limit c.in-Some.ensures)),
    )

pub returns-in-None : goal.returns-in-None
returns-in-None c = (λ test limit has. absurd (c.in-None.ensures limit has), λ deep. refl)
