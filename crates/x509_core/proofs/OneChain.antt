-- At most one error reports the first broken rule of a chain.
use Rattle.std.proofs.Common.{◌≡◌, ◌⊎◌, List, [], ◌∷◌, ◌++◌, length, Option, inl, inr, refl, sym, ap, subst, ◌∙◌}
use Rattle.der_core.specs.Rules.{IsFirstBroken}
use Rattle.der_core.proofs.RuleLists.{IsReturnedOnce, one_broken}
use Rattle.key_core.specs.Verifying.{Judge}
use Rattle.x509_core.specs.Chain.{IsFirstUnlinked, IsUnlinked, chain_rules, last_of}
use Rattle.x509_core.specs.OwnedCertificate.{KeptCertificate}
use Rattle.x509_core.specs.Link.{link_rules}
use Rattle.x509_core.specs.Window.{window_rules}
use Rattle.x509_core.specs.declared.error.CertError.{CertError}
use Rattle.x509_core.specs.declared.validator.ChainChecks.{ChainChecks}
use Rattle.x509_core.specs.declared.window.Window.{Window}
use Rattle.x509_core.proofs.OneLink.{window_once, returned_once, link_once}
use Rattle.x509_core.proofs.UnbrokenLinks.{link_is_met}
use Rattle.x509_core.proofs.Verdicts.{same_list}

module _ {K : Type 0} where
  -- two indices in one list are the same, or one is before the other
  abbrev AreTwo : (a b : List K) (x y : K) → Type 0
  AreTwo a b x y = ((a ≡ b) × (x ≡ y)) ⊎ (((rest : List K) × (b ≡ a ++ x ∷ rest)) ⊎ ((rest : List K) × (a ≡ b ++ y ∷ rest)))

  behind : (h k : K) (a b : List K) (x y : K) → h ≡ k → AreTwo a b x y → AreTwo (h ∷ a) (k ∷ b) x y
  behind h k a b x y same (inl (p, q)) = inl (ap (λ (zs : List K). h ∷ zs) p ∙ ap (λ (z : K). z ∷ b) same, q)
  behind h k a b x y same (inr (inl (rest, p))) = inr (inl (rest, ap (λ (zs : List K). k ∷ zs) p ∙ ap (λ (z : K). z ∷ (a ++ x ∷ rest)) (sym same)))
  behind h k a b x y same (inr (inr (rest, p))) = inr (inr (rest, ap (λ (zs : List K). h ∷ zs) p ∙ ap (λ (z : K). z ∷ (b ++ y ∷ rest)) same))

  two_places : (a b : List K) (x y : K) (c d : List K) → a ++ x ∷ c ≡ b ++ y ∷ d → AreTwo a b x y
  two_places [] [] x y c d e = inl (refl, cc)
  two_places [] (k ∷ b) x y c d e =
      let same : x ≡ k = cc in
      inr (inl (b, ap (λ (z : K). z ∷ b) (sym same)))
  two_places (h ∷ a) [] x y c d e =
      let same : h ≡ y = cc in
      inr (inr (a, ap (λ (z : K). z ∷ a) same))
  two_places (h ∷ a) (k ∷ b) x y c d e =
      let same : h ≡ k = cc in
      let rest : a ++ x ∷ c ≡ b ++ y ∷ d = cc in
      behind h k a b x y same (two_places a b x y c d rest)

module _ (judge : Judge) (w : Window) (checked : KeptCertificate) where
  before_is_linked : (parents : List KeptCertificate) (a b : CertError) (p : IsFirstUnlinked judge w checked parents a)
      (q : IsFirstUnlinked judge w checked parents b) (rest : List KeptCertificate)
      → q.before ≡ p.before ++ p.parent ∷ rest → ⊥
  before_is_linked parents a b p q rest e =
      link_is_met judge w (length p.before) p.parent (last_of checked p.before) a (q.linked p.before rest p.parent e) p.broken

  same_place : (parents : List KeptCertificate) (a b : CertError) (p : IsFirstUnlinked judge w checked parents a)
      (q : IsFirstUnlinked judge w checked parents b)
      → AreTwo p.before q.before p.parent q.parent → a ≡ b
  same_place parents a b p q (inl (before, parent)) =
      let there = subst (λ (k : KeptCertificate). IsFirstBroken (link_rules judge w (length q.before) k (last_of checked q.before)) a) parent
      (subst (λ (ks : List KeptCertificate). IsFirstBroken (link_rules judge w (length ks) p.parent (last_of checked ks)) a) before p.broken) in
      link_once judge w (length q.before) q.parent (last_of checked q.before) a b there q.broken
  same_place parents a b p q (inr (inl (rest, e))) = absurd (before_is_linked parents a b p q rest e)
  same_place parents a b p q (inr (inr (rest, e))) = absurd (before_is_linked parents b a q p rest e)

  unlinked_once : (parents : List KeptCertificate) → IsReturnedOnce (IsFirstUnlinked judge w checked parents)
  unlinked_once parents = λ a b p q. same_place parents a b p q (two_places p.before q.before p.parent q.parent p.after q.after (sym p.are ∙ q.are))

module _ (judge : Judge) (checks : ChainChecks) (checked : KeptCertificate) (given : Option (List KeptCertificate)) where
  link_returned_once : IsReturnedOnce (IsUnlinked judge checks checked given)
  link_returned_once = λ a b p q.
      let same = same_list p.parents q.parents (sym p.is ∙ q.is) in
      unlinked_once judge checks.window checked q.parents a b
      (subst (λ (ks : List KeptCertificate). IsFirstUnlinked judge checks.window checked ks a) same p.first) q.first

  pub chain_once : IsReturnedOnce (IsFirstBroken (chain_rules judge checks checked given))
  chain_once = λ a b p q. one_broken (chain_rules judge checks checked given) (
    λ a b p q. p.2 ∙ sym q.2,
    (
      returned_once checked (IsFirstBroken (window_rules checks.window checked.elements)) (window_once checks.window checked.elements),
      (λ a b p q. p.2 ∙ sym q.2, (link_returned_once, (λ a b p q. p.returned ∙ sym q.returned, tt))),
    ),
  ) a b p q
