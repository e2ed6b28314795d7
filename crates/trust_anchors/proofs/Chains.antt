-- The certificates at indices of a pool.
use Rattle.std.proofs.Common.{◌≡◌, ◌⊎◌, ℕ, suc, ◌-◌, ◌<◌, ◌≤◌, List, [], ◌∷◌, ◌++◌, length, Option, Some, IsSome, inl, inr, refl, sym, ap, subst, arith}
use Rattle.std.specs.Prelude.{slice_get}
use Rattle.std.proofs.lemmas.Bool.{cases_lt, false≢true}
use Rattle.std.proofs.lemmas.Option.{slice_get_past}
use Rattle.x509_core.specs.Chain.{last_of}
use Rattle.x509_core.specs.OwnedCertificate.{KeptCertificate}
use Rattle.trust_anchors.specs.AnchoredPath.{AreAt}
use Rattle.trust_anchors.specs.Inside.Trails.{end_from}

pub end_more : (pool : List KeptCertificate) (end : Option KeptCertificate) (indices : List ℕ) (index : ℕ)
    → end_from pool end (indices ++ index ∷ []) ≡ slice_get pool index
end_more pool end [] index = refl
end_more pool end (i ∷ indices) index = end_more pool (slice_get pool i) indices index

end_by_place : (pool : List KeptCertificate) (i j : ℕ) (rest : List ℕ) (n index : ℕ) → n ≡ suc (suc (length rest) - 1) → slice_get (i ∷ j ∷ rest) n ≡ Some index
    → slice_get (j ∷ rest) (suc (length rest) - 1) ≡ Some index
end_by_place pool i j rest n index e is = subst (λ (k : ℕ). slice_get (i ∷ j ∷ rest) k ≡ Some index) e is

-- the end is the certificate at the last index
pub end_by_last : (pool : List KeptCertificate) (end : Option KeptCertificate) (indices : List ℕ) (index : ℕ)
    → slice_get indices (length indices - 1) ≡ Some index → end_from pool end indices ≡ slice_get pool index
end_by_last pool end [] index e = absurd cc
end_by_last pool end (i ∷ []) index e =
    let same : i ≡ index = cc in
    ap (λ (n : ℕ). slice_get pool n) same
end_by_last pool end (i ∷ j ∷ rest) index e =
    end_by_last pool (slice_get pool i) (j ∷ rest) index (end_by_place pool i j rest (suc (suc (length rest)) - 1) index (omega arith) e)

-- an index with a certificate is one of the pool
pub within_pool : (pool : List KeptCertificate) (index : ℕ) → IsSome (slice_get pool index) → index < length pool
within_pool pool index some = by (cases_lt index (length pool))
  where
    by : (index < length pool) ⊎ (length pool ≤ index) → index < length pool
    by (inl less) = less
    by (inr past) = absurd (false≢true (subst (λ (o : Option KeptCertificate). IsSome o) (slice_get_past pool index past) some))

-- the end is the last certificate of the chain
pub end_at : (pool : List KeptCertificate) (checked : KeptCertificate) (indices : List ℕ) (certificates : List KeptCertificate)
    → AreAt pool indices certificates
    → end_from pool (Some checked) indices ≡ Some (last_of checked certificates)
end_at pool checked [] [] e = refl
end_at pool checked [] (x ∷ xs) e = absurd cc
end_at pool checked (i ∷ indices) [] e = absurd cc
end_at pool checked (i ∷ indices) (x ∷ xs) e =
    let head : slice_get pool i ≡ Some x = cc in
    let rest : AreAt pool indices xs = cc in
    subst (λ (end : Option KeptCertificate). end_from pool end indices ≡ Some (last_of x xs)) (sym head) (end_at pool x indices xs rest)

pub as_many : (pool : List KeptCertificate) (indices : List ℕ) (certificates : List KeptCertificate) → AreAt pool indices certificates
    → length indices ≡ length certificates
as_many pool [] [] e = refl
as_many pool [] (x ∷ xs) e = absurd cc
as_many pool (i ∷ indices) [] e = absurd cc
as_many pool (i ∷ indices) (x ∷ xs) e =
    let rest : AreAt pool indices xs = cc in
    omega (arith, as_many pool indices xs rest)

pub at_more : (pool : List KeptCertificate) (indices : List ℕ) (certificates : List KeptCertificate) (index : ℕ) (x : KeptCertificate)
    → AreAt pool indices certificates → slice_get pool index ≡ Some x → AreAt pool (indices ++ index ∷ []) (certificates ++ x ∷ [])
at_more pool [] [] index x e is = cc
at_more pool [] (y ∷ xs) index x e is = absurd cc
at_more pool (i ∷ indices) [] index x e is = absurd cc
at_more pool (i ∷ indices) (y ∷ xs) index x e is =
    let head : slice_get pool i ≡ Some y = cc in
    let rest : AreAt pool indices xs = cc in
    let more : AreAt pool (indices ++ index ∷ []) (xs ++ x ∷ []) = at_more pool indices xs index x rest is in
    cc

-- the certificates at all indices but the last one, and that at the last one
pub record SplitAt (pool : List KeptCertificate) (indices : List ℕ) (index : ℕ) (certificates : List KeptCertificate) : Type 0 where
  pub before : List KeptCertificate
  pub last : KeptCertificate
  pub are : certificates ≡ before ++ last ∷ []
  pub at : AreAt pool indices before
  pub is : slice_get pool index ≡ Some last

split_more : (pool : List KeptCertificate) (i : ℕ) (indices : List ℕ) (index : ℕ) (x : KeptCertificate) (xs : List KeptCertificate) → slice_get pool i ≡ Some x
    → SplitAt pool indices index xs
    → SplitAt pool (i ∷ indices) index (x ∷ xs)
split_more pool i indices index x xs head split =
    let at : AreAt pool indices split.before = split.at in
    record { before = x ∷ split.before; last = split.last; are = ap (λ (zs : List KeptCertificate). x ∷ zs) split.are; at = cc; is = split.is }

pub split_at : (pool : List KeptCertificate) (indices : List ℕ) (index : ℕ) (certificates : List KeptCertificate)
    → AreAt pool (indices ++ index ∷ []) certificates
    → SplitAt pool indices index certificates
split_at pool [] index [] e = absurd cc
split_at pool [] index (x ∷ []) e = record { before = []; last = x; are = refl; at = refl; is = cc }
split_at pool [] index (x ∷ y ∷ xs) e = absurd cc
split_at pool (i ∷ indices) index [] e = absurd cc
split_at pool (i ∷ indices) index (x ∷ xs) e =
    let head : slice_get pool i ≡ Some x = cc in
    let rest : AreAt pool (indices ++ index ∷ []) xs = cc in
    split_more pool i indices index x xs head (split_at pool indices index xs rest)
