-- A signer has at most one vouched path, and whether certificates at indices are a chain has one
-- result.
use Rattle.std.proofs.Common.{◌≡◌, ◌⊎◌, ℕ, List, [], ◌∷◌, ◌++◌, length, inl, inr, refl, sym, ap, subst, ◌∙◌}
use Rattle.der_core.specs.Rules.{IsFirstBroken}
use Rattle.key_core.specs.Verifying.{Judge}
use Rattle.x509_core.specs.Chain.{IsLinkedChain, last_of}
use Rattle.x509_core.specs.Facts.Certs.{same_kept}
use Rattle.x509_core.specs.OwnedCertificate.{KeptCertificate}
use Rattle.x509_core.specs.Link.{link_rules}
use Rattle.x509_core.specs.declared.error.CertError.{CertError}
use Rattle.x509_core.specs.declared.window.Window.{Window}
use Rattle.x509_core.proofs.OneLink.{link_once}
use Rattle.x509_core.proofs.UnbrokenLinks.{link_is_met}
use Rattle.x509_types.specs.CertificateElements.{CertificateElements}
use Rattle.authenticode_core.specs.LinkedPath.{StandAt, AreLinkedAt, IsUnlinkedAt, IsVouchedPath}
use Rattle.authenticode_core.specs.Indices.{StandsAt}
use Rattle.authenticode_core.proofs.WalkSteps.{one_path, same_certificate}

-- stored certificates with the same elements are the same
pub kept_once : (a b : KeptCertificate) → a.elements ≡ b.elements → a ≡ b
kept_once a b e = same_kept a b e

-- ---- certificates at indices

-- at an index there is one stored certificate
pub kept_at_once : (bag : List CertificateElements) (place : ℕ) (a b : KeptCertificate) → StandsAt bag place a.elements → StandsAt bag place b.elements → a ≡ b
kept_at_once bag place a b p q = kept_once a b (sym (same_certificate bag place place a.elements b.elements refl p q))

pub stand_once : (bag : List CertificateElements) (places : List ℕ) (a b : List KeptCertificate) → StandAt bag places a → StandAt bag places b → a ≡ b
stand_once bag [] [] [] p q = refl
stand_once bag [] [] (l ∷ b) p q = absurd q
stand_once bag [] (k ∷ a) b p q = absurd p
stand_once bag (place ∷ places) [] b p q = absurd p
stand_once bag (place ∷ places) (k ∷ a) [] p q = absurd q
stand_once bag (place ∷ places) (k ∷ a) (l ∷ b) p q =
    ap (λ (c : KeptCertificate). c ∷ a) (kept_at_once bag place k l p.0 q.0) ∙ ap (λ (cs : List KeptCertificate). l ∷ cs) (stand_once bag places a b p.1 q.1)

-- The certificates before an index, the one at it, and those behind it.
record Parted (bag : List CertificateElements) (before : List ℕ) (place : ℕ) (parents : List KeptCertificate) : Type 0 where
  below : List KeptCertificate
  parent : KeptCertificate
  above : List KeptCertificate
  are : parents ≡ below ++ parent ∷ above
  stand : StandAt bag before below
  stands : StandsAt bag place parent.elements

parted : (bag : List CertificateElements) (before : List ℕ) (place : ℕ) (after : List ℕ) (parents : List KeptCertificate)
    → StandAt bag (before ++ place ∷ after) parents → Parted bag before place parents
parted bag [] place after [] s = absurd s
parted bag [] place after (k ∷ ks) s = record { below = []; parent = k; above = ks; are = refl; stand = tt; stands = s.0 }
parted bag (first ∷ before) place after [] s = absurd s
parted bag (first ∷ before) place after (k ∷ ks) s =
    let others = parted bag before place after ks s.1 in
    record {
      below = k ∷ others.below;
      parent = others.parent;
      above = others.above;
      are = ap (λ (cs : List KeptCertificate). k ∷ cs) others.are;
      stand = (s.0, others.stand);
      stands = others.stands;
    }

-- ---- two indices in one list are the same, or one is before the other

abbrev AreTwo : (a b : List ℕ) (x y : ℕ) → Type 0
AreTwo a b x y = ((a ≡ b) × (x ≡ y)) ⊎ (((rest : List ℕ) × (b ≡ a ++ x ∷ rest)) ⊎ ((rest : List ℕ) × (a ≡ b ++ y ∷ rest)))

behind : (h k : ℕ) (a b : List ℕ) (x y : ℕ) → h ≡ k → AreTwo a b x y → AreTwo (h ∷ a) (k ∷ b) x y
behind h k a b x y same (inl (p, q)) = inl (ap (λ (zs : List ℕ). h ∷ zs) p ∙ ap (λ (z : ℕ). z ∷ b) same, q)
behind h k a b x y same (inr (inl (rest, p))) = inr (inl (rest, ap (λ (zs : List ℕ). k ∷ zs) p ∙ ap (λ (z : ℕ). z ∷ (a ++ x ∷ rest)) (sym same)))
behind h k a b x y same (inr (inr (rest, p))) = inr (inr (rest, ap (λ (zs : List ℕ). h ∷ zs) p ∙ ap (λ (z : ℕ). z ∷ (b ++ y ∷ rest)) same))

two_places : (a b : List ℕ) (x y : ℕ) (c d : List ℕ) → a ++ x ∷ c ≡ b ++ y ∷ d → AreTwo a b x y
two_places [] [] x y c d e = inl (refl, cc)
two_places [] (k ∷ b) x y c d e =
    let same : x ≡ k = cc in
    inr (inl (b, ap (λ (z : ℕ). z ∷ b) (sym same)))
two_places (h ∷ a) [] x y c d e =
    let same : h ≡ y = cc in
    inr (inr (a, ap (λ (z : ℕ). z ∷ a) same))
two_places (h ∷ a) (k ∷ b) x y c d e =
    let same : h ≡ k = cc in
    let rest : a ++ x ∷ c ≡ b ++ y ∷ d = cc in
    behind h k a b x y same (two_places a b x y c d rest)

-- ---- chains at indices

module _ (judge : Judge) (w : Window) (bag : List CertificateElements) (checked : KeptCertificate) where
  -- what is linked at an index isn't broken there
  linked_there : (places : List ℕ) (e : CertError) (u : IsUnlinkedAt judge w bag checked places e) (rest : List ℕ) (parents : List KeptCertificate)
      → StandAt bag (u.before ++ u.place ∷ rest) parents → IsLinkedChain judge w checked parents → ⊥
  linked_there places e u rest parents stand linked =
      let parts = parted bag u.before u.place rest parents stand in
      let below = stand_once bag u.before parts.below u.below parts.stand u.stand in
      let parent = kept_at_once bag u.place parts.parent u.parent parts.stands u.stands in
      let whole : parents ≡ u.below ++ u.parent ∷ parts.above = parts.are
      ∙ ap (λ (cs : List KeptCertificate). cs ++ parts.parent ∷ parts.above) below
      ∙ ap (λ (k : KeptCertificate). u.below ++ k ∷ parts.above) parent in
      link_is_met judge w (length u.below) u.parent (last_of checked u.below) e (linked u.below parts.above u.parent whole) u.broken

  pub linked_is_not_broken : (places : List ℕ) (e : CertError) → AreLinkedAt judge w bag checked places → IsUnlinkedAt judge w bag checked places e → ⊥
  linked_is_not_broken places e l u = linked_there places e u u.after l.parents (subst (λ (ps : List ℕ). StandAt bag ps l.parents) u.are l.stand) l.linked

  same_break : (places : List ℕ) (a b : CertError) (p : IsUnlinkedAt judge w bag checked places a) (q : IsUnlinkedAt judge w bag checked places b)
      → AreTwo p.before q.before p.place q.place → a ≡ b
  same_break places a b p q (inl (before, place)) =
      let below = stand_once bag q.before p.below q.below (subst (λ (ps : List ℕ). StandAt bag ps p.below) before p.stand) q.stand in
      let parent = kept_at_once bag q.place p.parent q.parent (subst (λ (n : ℕ). StandsAt bag n p.parent.elements) place p.stands) q.stands in
      let there = subst (λ (k : KeptCertificate). IsFirstBroken (link_rules judge w (length q.below) k (last_of checked q.below)) a) parent
      (subst (λ (ks : List KeptCertificate). IsFirstBroken (link_rules judge w (length ks) p.parent (last_of checked ks)) a) below p.broken) in
      link_once judge w (length q.below) q.parent (last_of checked q.below) a b there q.broken
  same_break places a b p q (inr (inl (rest, e))) =
      absurd (linked_there places a p rest q.below (subst (λ (ps : List ℕ). StandAt bag ps q.below) e q.stand) q.linked)
  same_break places a b p q (inr (inr (rest, e))) =
      absurd (linked_there places b q rest p.below (subst (λ (ps : List ℕ). StandAt bag ps p.below) e p.stand) p.linked)

  pub unlinked_once : (places : List ℕ) (a b : CertError) → IsUnlinkedAt judge w bag checked places a → IsUnlinkedAt judge w bag checked places b → a ≡ b
  unlinked_once places a b p q = same_break places a b p q (two_places p.before q.before p.place q.place p.after q.after (sym p.are ∙ q.are))
