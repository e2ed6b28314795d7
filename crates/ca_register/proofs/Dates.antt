-- The order of dates.
use Rattle.std.proofs.Common.{◌≡◌, ◌⊎◌, inl, inr, refl, sym, ap, ◌∙◌}
use Rattle.std.specs.Ordering.{ordering_reverse}
use Rattle.std.specs.declared.cmp.Ordering.{Ordering}
use Rattle.std.specs.declared.cmp.Ordering.TheVariants.{Less, Equal, Greater}
use Rattle.std.specs.Cmp.Lexicographic.{slice_cmp}
use Rattle.std.specs.Ordering.{nat_cmp}
use Rattle.std.proofs.lemmas.Cmp.{nat_list_cmp_total}
use Rattle.asn1_types.specs.Time.{generalized_fields}
use Rattle.asn1_types.specs.declared.generalized_time.GeneralizedTime.{GeneralizedTime}
use Rattle.x509_core.specs.Window.{IsEarlier}

abbrev order : GeneralizedTime → GeneralizedTime → Ordering
order a b = slice_cmp nat_cmp (generalized_fields a) (generalized_fields b)

not_own_reverse : (o : Ordering) → o ≡ ordering_reverse o → o ≡ Less → ⊥
not_own_reverse Less same less = absurd cc
not_own_reverse Equal same less = absurd cc
not_own_reverse Greater same less = absurd cc

pub not_before_itself : (a : GeneralizedTime) → IsEarlier a a → ⊥
not_before_itself a = not_own_reverse (order a a) (nat_list_cmp_total.antisymm (generalized_fields a) (generalized_fields a))

pub earlier_over : (a b c : GeneralizedTime) → IsEarlier a b → IsEarlier b c → IsEarlier a c
earlier_over a b c = nat_list_cmp_total.trans (generalized_fields a) (generalized_fields b) (generalized_fields c)

less_or_not : (o : Ordering) → (o ≡ Less) ⊎ ((o ≡ Equal) ⊎ (o ≡ Greater))
less_or_not Less = inl refl
less_or_not Equal = inr (inl refl)
less_or_not Greater = inr (inr refl)

-- a date that is before one is before each that isn't before that one
pub before_later : (a b c : GeneralizedTime) → IsEarlier a b → (IsEarlier c b → ⊥) → IsEarlier a c
before_later a b c early not_before = by (less_or_not (order b c))
  where
    by : (order b c ≡ Less) ⊎ ((order b c ≡ Equal) ⊎ (order b c ≡ Greater)) → IsEarlier a c
    by (inl less) = earlier_over a b c early less
    by (inr (inl equal)) = same_before equal
      where
        -- as `a` compares with both
        reversed : (o p : Ordering) → o ≡ ordering_reverse p → p ≡ Greater → o ≡ Less
        reversed o p e g = e ∙ ap ordering_reverse g

        greater : (o p : Ordering) → p ≡ ordering_reverse o → o ≡ Less → p ≡ Greater
        greater o p e l = e ∙ ap ordering_reverse l

        same_before : order b c ≡ Equal → IsEarlier a c
        same_before e =
            let congr = nat_list_cmp_total.congr (generalized_fields b) (generalized_fields c) (generalized_fields a) e in
            reversed (order a c) (order c a) (nat_list_cmp_total.antisymm (generalized_fields a) (generalized_fields c))
            (sym congr ∙ greater (order a b) (order b a) (nat_list_cmp_total.antisymm (generalized_fields b) (generalized_fields a)) early)
    by (inr (inr more)) = absurd (not_before (nat_list_cmp_total.antisymm (generalized_fields c) (generalized_fields b) ∙ ap ordering_reverse more))

-- a date that is after one is after each that isn't after that one
pub after_earlier : (a b c : GeneralizedTime) → IsEarlier b a → (IsEarlier b c → ⊥) → IsEarlier c a
after_earlier a b c late not_after = by (less_or_not (order c b))
  where
    by : (order c b ≡ Less) ⊎ ((order c b ≡ Equal) ⊎ (order c b ≡ Greater)) → IsEarlier c a
    by (inl less) = earlier_over c b a less late
    by (inr (inl equal)) = nat_list_cmp_total.congr (generalized_fields c) (generalized_fields b) (generalized_fields a) equal ∙ late
    by (inr (inr more)) = absurd (not_after (nat_list_cmp_total.antisymm (generalized_fields b) (generalized_fields c) ∙ ap ordering_reverse more))
