-- The order of lists of indices.
use Rattle.std.proofs.Common.{◌≡◌, ◌⊎◌, ℕ, List, [], ◌∷◌, ◌++◌, length, false, refl, sym, subst, inl, inr, arith}
use Rattle.std.specs.Cmp.Lexicographic.{slice_cmp}
use Rattle.std.specs.Ordering.{nat_cmp, is_gt, ordering_then, ordering_reverse}
use Rattle.std.specs.declared.cmp.Ordering.{Ordering}
use Rattle.std.specs.declared.cmp.Ordering.TheVariants.{Less, Equal, Greater}
use Rattle.std.proofs.lemmas.Cmp.{nat_list_cmp_total, upto, tied_itself}
use Rattle.std.proofs.lemmas.Map.Lookups.{exact_bytes}
use Rattle.trust_anchors.specs.FirstPath.{IsBefore}
use Rattle.trust_anchors.specs.Inside.Trails.{IsUpTo}

pub up_to_trans : (a b c : List ℕ) → IsUpTo a b → IsUpTo b c → IsUpTo a c
up_to_trans a b c p q = upto nat_list_cmp_total a b c p q

-- each list is up to itself
pub up_to_itself : (a : List ℕ) → IsUpTo a a
up_to_itself a = subst (λ (o : Ordering). is_gt o ≡ false) (sym (tied_itself nat_list_cmp_total a)) refl

turned : (o : Ordering) → (o ≡ Less → ⊥) → is_gt (ordering_reverse o) ≡ false
turned Less isnt = absurd (isnt refl)
turned Equal isnt = refl
turned Greater isnt = refl

-- a list is up to each one that isn't before it
pub up_to_unless_before : (a b : List ℕ) → (IsBefore b a → ⊥) → IsUpTo a b
up_to_unless_before a b isnt =
    subst (λ (o : Ordering). is_gt o ≡ false) (sym (nat_list_cmp_total.antisymm a b)) (turned (slice_cmp nat_cmp b a) isnt)

pub up_to_before : (a b : List ℕ) → IsBefore a b → IsUpTo a b
up_to_before a b less = subst (λ (o : Ordering). is_gt o ≡ false) (sym less) refl

-- a list that is up to another is before it, or the same
pub up_to_cases : (a b : List ℕ) → IsUpTo a b → IsBefore a b ⊎ (a ≡ b)
up_to_cases a b h = by (slice_cmp nat_cmp a b) refl h
  where
    by : (o : Ordering) → slice_cmp nat_cmp a b ≡ o → is_gt o ≡ false → IsBefore a b ⊎ (a ≡ b)
    by Less e h = inl e
    by Equal e h = inr (exact_bytes a b e)
    by Greater e h = absurd cc

then_more : (o r s : Ordering) → is_gt (ordering_then o r) ≡ false → (is_gt r ≡ false → is_gt s ≡ false) → is_gt (ordering_then o s) ≡ false
then_more Less r s h k = refl
then_more Equal r s h k = k h
then_more Greater r s h k = h

-- two lists of one length keep their order with one more index, the same
pub up_to_more : (a b : List ℕ) (x : ℕ) → length a ≡ length b → IsUpTo a b → IsUpTo (a ++ x ∷ []) (b ++ x ∷ [])
up_to_more [] [] x e h = up_to_itself (x ∷ [])
up_to_more [] (z ∷ b) x e h = absurd (omega (arith, e))
up_to_more (y ∷ a) [] x e h = absurd (omega (arith, e))
up_to_more (y ∷ a) (z ∷ b) x e h =
    then_more (nat_cmp y z) (slice_cmp nat_cmp a b) (slice_cmp nat_cmp (a ++ x ∷ []) (b ++ x ∷ [])) h (up_to_more a b x (omega (arith, e)))

-- no list is before one that is before it
pub not_both_before : (a b : List ℕ) → IsBefore a b → IsBefore b a → ⊥
not_both_before a b p q =
    let back : slice_cmp nat_cmp a b ≡ ordering_reverse (slice_cmp nat_cmp b a) = nat_list_cmp_total.antisymm a b in
    let turn : slice_cmp nat_cmp a b ≡ Greater = subst (λ (o : Ordering). slice_cmp nat_cmp a b ≡ ordering_reverse o) q back in
    let same : Less ≡ Greater = subst (λ (o : Ordering). o ≡ Greater) p turn in
    absurd cc

pub not_before_itself : (a : List ℕ) → IsBefore a a → ⊥
not_before_itself a less = not_both_before a a less less
