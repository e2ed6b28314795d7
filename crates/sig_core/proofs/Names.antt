-- An algorithm and its name determine each other, and a name ends at the first space.
use Rattle.std.proofs.Common.{◌≡◌, ℕ, ◌<◌, ◌==◌, Bool, List, ◌∷◌, ◌++◌, length, take, refl, sym, ◌∙◌, ap, subst, arith, lit<, length-append, Some}
use Rattle.std.specs.Prelude.{Option, Contains, find, position}
use Rattle.std.specs.List.{position_or_len}
use Rattle.std.specs.Str.{bytes_eq}
use Rattle.std.proofs.Math.Seq.{take-append_seam}
use Rattle.std.proofs.lemmas.List.{append_cancel_left}
use Rattle.sig_core.specs.declared.algorithm.SigAlg.{SigAlg}
use Rattle.sig_core.specs.declared.algorithm.SigAlg.TheVariants.{RsaMd5, RsaSha1, RsaSha224, RsaSha256, RsaSha384}
use Rattle.sig_core.specs.declared.algorithm.SigAlg.TheVariants.{RsaSha512, P256Sha256, P384Sha384, P521Sha512, Ed25519}
use Rattle.sig_core.specs.declared.algorithm.TheConstants.SigAlg.{ALL}
use Rattle.sig_core.specs.Algorithm.{name_of}
use Rattle.sig_core.specs.VerdictTable.{space}

-- the list of the algorithms has each
pub has_each : (alg : SigAlg) → Contains ALL alg
has_each RsaMd5 = (0, lit< tt, refl)
has_each RsaSha1 = (1, lit< tt, refl)
has_each RsaSha224 = (2, lit< tt, refl)
has_each RsaSha256 = (3, lit< tt, refl)
has_each RsaSha384 = (4, lit< tt, refl)
has_each RsaSha512 = (5, lit< tt, refl)
has_each P256Sha256 = (6, lit< tt, refl)
has_each P384Sha384 = (7, lit< tt, refl)
has_each P521Sha512 = (8, lit< tt, refl)
has_each Ed25519 = (9, lit< tt, refl)

-- the algorithm with this name
abbrev pub named : List ℕ → Option SigAlg
named name = find (λ alg. bytes_eq (name_of alg) name) ALL

pub named-name_of : (alg : SigAlg) → named (name_of alg) ≡ Some alg
named-name_of RsaMd5 = refl
named-name_of RsaSha1 = refl
named-name_of RsaSha224 = refl
named-name_of RsaSha256 = refl
named-name_of RsaSha384 = refl
named-name_of RsaSha512 = refl
named-name_of P256Sha256 = refl
named-name_of P384Sha384 = refl
named-name_of P521Sha512 = refl
named-name_of Ed25519 = refl

-- no two algorithms have the same name
pub name_of_same : (a b : SigAlg) → name_of a ≡ name_of b → a ≡ b
name_of_same a b e = let n = sym (named-name_of a) ∙ ap named e ∙ named-name_of b in cc

-- a name has no space
pub position_or_len-name : (alg : SigAlg) (after : List ℕ)
    → position_or_len (λ octet. octet == space) (name_of alg ++ space ∷ after) ≡ length (name_of alg)
position_or_len-name RsaMd5 after = refl
position_or_len-name RsaSha1 after = refl
position_or_len-name RsaSha224 after = refl
position_or_len-name RsaSha256 after = refl
position_or_len-name RsaSha384 after = refl
position_or_len-name RsaSha512 after = refl
position_or_len-name P256Sha256 after = refl
position_or_len-name P384Sha384 after = refl
position_or_len-name P521Sha512 after = refl
position_or_len-name Ed25519 after = refl

-- the first space follows the name
pub position-name : (alg : SigAlg) (after text : List ℕ) → text ≡ name_of alg ++ space ∷ after
    → position (λ octet. octet == space) text ≡ Some (length (name_of alg))
position-name alg after text e =
    let P : List ℕ → Type 0 = λ t. position (λ octet. octet == space) t ≡ Some (length (name_of alg)) in
    let long = length-append (name_of alg) (space ∷ after) in
    let below : length (name_of alg) < length (name_of alg ++ space ∷ after) = omega (arith, long) in
    subst P (sym e) (at_len (λ octet. octet == space) _ _ (position_or_len-name alg after) below)
  where
    at_len : (p : ℕ → Bool) (xs : List ℕ) (n : ℕ) → position_or_len p xs ≡ n → n < length xs → position p xs ≡ Some n
    at_len p xs n here below = grind (arith, here, below)

pub take-name : (alg : SigAlg) (after text : List ℕ) → text ≡ name_of alg ++ space ∷ after
    → take (length (name_of alg)) text ≡ name_of alg
take-name alg after text e = ap (take (length (name_of alg))) e ∙ take-append_seam (name_of alg) (space ∷ after)

-- a name and a space parse unambiguously
pub name_once : (a b : SigAlg) (x y : List ℕ) → name_of a ++ space ∷ x ≡ name_of b ++ space ∷ y → (a ≡ b) × (x ≡ y)
name_once a b x y e =
    let pa = position-name a x _ refl in
    let pb = position-name b y _ e in
    let long : length (name_of a) ≡ length (name_of b) = cc (pa, pb) in
    let names = sym (take-name a x _ refl) ∙ ap (λ n. take n (name_of a ++ space ∷ x)) long ∙ take-name b y _ e in
    let same = name_of_same a b names in
    let tails = append_cancel_left (name_of b) (space ∷ x) (space ∷ y) (ap (λ n. n ++ space ∷ x) (sym names) ∙ e) in
    (same, cc)
