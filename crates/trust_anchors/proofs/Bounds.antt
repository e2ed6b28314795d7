-- How many signatures are verified for one length, and for all.
use Rattle.std.proofs.Common.{◌≡◌, ℕ, ◌+◌, ◌*◌, ◌≤◌, suc, arith, add-one, ap, ◌∙◌}
use Rattle.std.proofs.Math.Nat.{mul_comm, mul-add, mul-suc}
use Rattle.std.proofs.lemmas.Nat.{mul-le}

-- c trails, n certificates and m anchors: the anchors and the certificates for each trail
pub for_one_length : (c n m : ℕ) → c ≤ n + 1 → c * m + n * c ≤ (n + 1) * (n + m)
for_one_length c n m few =
    let bound : c * (n + m) ≤ (n + 1) * (n + m) = mul-le c (n + m) (n + 1) (n + m) few (omega arith) in
    let split : c * (n + m) ≡ c * n + c * m = mul-add c n m in
    let turn : n * c ≡ c * n = mul_comm n c in
    omega (arith, bound, split, turn)

-- the anchors alone
pub for_anchors : (c n m : ℕ) → c ≤ n + 1 → c * m ≤ (n + 1) * (n + m)
for_anchors c n m few = omega (arith, for_one_length c n m few)

pub one_more_length : (k next x : ℕ) → next ≡ suc k → next * x ≡ k * x + x
one_more_length k next x e = ap (λ (n : ℕ). n * x) e ∙ mul_comm (suc k) x ∙ mul-suc x k ∙ ap (λ (p : ℕ). p + x) (mul_comm x k)

-- after one length more, with the anchors verified for each of its trails, then the certificates
pub one_more_counted : (c d n m x number from before between now : ℕ) → c * m + n * c ≤ x → d ≡ c → before ≤ from + number * x → between ≤ before + c * m
    → now ≤ between + n * d
    → now ≤ from + (number + 1) * x
one_more_counted c d n m x number from before between now most same p q r =
    let turn : n * d ≡ n * c = ap (λ (k : ℕ). n * k) same in
    let next : (number + 1) * x ≡ number * x + x = one_more_length number (number + 1) x (add-one number) in
    omega (arith, most, turn, next, p, q, r)

-- a length of at most 15 indices is one of the first 16
pub of_16 : (number x from now : ℕ) → number ≤ 15 → now ≤ from + (number + 1) * x → now ≤ from + 16 * x
of_16 number x from now few more =
    let all : (number + 1) * x ≤ 16 * x = mul-le (number + 1) x 16 x (omega arith) (omega arith) in
    omega (arith, more, all)

-- what is verified for a part of a length
pub part_of_16 : (part number x from before now : ℕ) → number ≤ 15 → part ≤ x → before ≤ from + number * x → now ≤ before + part → now ≤ from + 16 * x
part_of_16 part number x from before now few most p q =
    let next : (number + 1) * x ≡ number * x + x = one_more_length number (number + 1) x (add-one number) in
    of_16 number x from now few (omega (arith, most, next, p, q))
