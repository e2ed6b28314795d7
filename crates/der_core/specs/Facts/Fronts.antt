-- No encoding is a prefix of another: the octets of a length say where it ends, and a length where
-- its contents end (X.690 8.1.1.4).
use Rattle.std.specs.Prelude.{◌≡◌, ℕ, ◌/◌, ◌%◌, ◌^◌, ◌<◌, ◌≤◌, true, false, List, [], ◌∷◌, ◌++◌, length, take, drop, Result, Ok, refl}
use Rattle.std.proofs.Common.{ltb, sym, ap, ◌∙◌, append_assoc, arith, inl, inr}
use Rattle.std.proofs.lemmas.Bool.{cases_lt, lt-ltb, le-ltb}
use Rattle.std.proofs.lemmas.List.{take_at, drop_at, length-append}
use Rattle.der_core.specs.declared.fault.DerFault.{DerFault}
use Rattle.der_core.specs.declared.fault.DerFault.TheVariants.{Truncated}
use Rattle.der_core.specs.DerElement.{DerElement, Primitive, Constructed, DerElements, Nil, Cons}
use Rattle.der_core.specs.Encoding.{length_octets, framed, encoding, encodings, IsWellFormed, AreWellFormed, IsShort, AreShort, form_bit}
use Rattle.der_core.specs.Head.{number_from, long_length_at, length_at}

abbrev pub done : {A : Type 0} → A → Result A DerFault
done x = Ok x

pub ok_is : {A : Type 0} (x y : A) → done x ≡ done y → x ≡ y
ok_is x y e = cc

long_again : (count least : ℕ) (past : DerFault) (digits rest : List ℕ) (n : ℕ) → length digits ≡ count → number_from 0 digits ≡ n → least ≤ n
    → long_length_at count least past (digits ++ rest) ≡ Ok (n, rest)
unfolding long_length_at
long_again count least past digits rest n len is-n enough =
    let there : ltb (length (digits ++ rest)) count ≡ false = le-ltb _ _ (omega (arith, length-append digits rest)) in
    let shortest : ltb n least ≡ false = le-ltb _ _ enough in
    rw (there, take_at digits rest count len, drop_at digits rest count len, is-n, shortest) refl

any_length_again : (past : DerFault) (n : ℕ) (rest : List ℕ) → length_at past (length_octets n ++ rest) ≡ Ok (n, rest)
unfolding length_at length_octets
any_length_again past n rest =
    elim (cases_lt n (2 ^ 7)) [
      | inl lt ↦ let t : ltb n (2 ^ 7) ≡ true = lt-ltb _ _ lt in rw (t, t) refl
      | inr ge7 ↦ let f7 : ltb n (2 ^ 7) ≡ false = le-ltb _ _ ge7 in
          elim (cases_lt n (2 ^ 8)) [
            | inl lt ↦ let t : ltb n (2 ^ 8) ≡ true = lt-ltb _ _ lt in
                rw (f7, t) (long_again 1 (2 ^ 7) past (n ∷ []) rest n refl (omega arith) ge7)
            | inr ge8 ↦ let f8 : ltb n (2 ^ 8) ≡ false = le-ltb _ _ ge8 in
                elim (cases_lt n (2 ^ 16)) [
                  | inl lt ↦ let t : ltb n (2 ^ 16) ≡ true = lt-ltb _ _ lt in
                      rw (f7, f8, t) (long_again 2 (2 ^ 8) past (n / 2 ^ 8 ∷ n % 2 ^ 8 ∷ []) rest n refl (omega arith) ge8)
                  | inr ge16 ↦ let f16 : ltb n (2 ^ 16) ≡ false = le-ltb _ _ ge16 in
                      elim (cases_lt n (2 ^ 24)) [
                        | inl lt ↦ let t : ltb n (2 ^ 24) ≡ true = lt-ltb _ _ lt in
                            rw (f7, f8, f16, t) (long_again 3 (2 ^ 16) past (n / 2 ^ 16 ∷ n / 2 ^ 8 % 2 ^ 8 ∷ n % 2 ^ 8 ∷ []) rest n refl (omega arith) ge16)
                        | inr ge24 ↦ let f24 : ltb n (2 ^ 24) ≡ false = le-ltb _ _ ge24 in
                            rw (f7, f8, f16, f24)
                            (long_again 4 (2 ^ 24) past (n / 2 ^ 24 ∷ n / 2 ^ 16 % 2 ^ 8 ∷ n / 2 ^ 8 % 2 ^ 8 ∷ n % 2 ^ 8 ∷ []) rest n refl (omega arith) ge24)
                      ]
                ]
          ]
    ]

pub length_again : (past : DerFault) (n : ℕ) (rest : List ℕ) → n < 2 ^ 32 → length_at past (length_octets n ++ rest) ≡ Ok (n, rest)
length_again past n rest below = any_length_again past n rest

abbrev tail : List ℕ → List ℕ
tail [] = []
tail (octet ∷ octets) = octets

abbrev front_or_zero : List ℕ → ℕ
front_or_zero [] = 0
front_or_zero (octet ∷ octets) = octet

same_fronts : (a b x y : List ℕ) → length a ≡ length b → a ++ x ≡ b ++ y → (a ≡ b) × (x ≡ y)
same_fronts a b x y len e = (
  sym (take_at a x (length b) len) ∙ ap (take (length b)) e ∙ take_at b y (length b) refl,
  sym (drop_at a x (length b) len) ∙ ap (drop (length b)) e ∙ drop_at b y (length b) refl,
)

same_lengths : (m n : ℕ) (x y : List ℕ) → length_octets m ++ x ≡ length_octets n ++ y → (m ≡ n) × (x ≡ y)
same_lengths m n x y e =
    let p : ℕ × List ℕ = (m, x) in
    let q : ℕ × List ℕ = (n, y) in
    let both : length_at Truncated (length_octets m ++ x) ≡ Ok q = ap (length_at Truncated) e ∙ any_length_again Truncated n y in
    let same : p ≡ q = ok_is p q (sym (any_length_again Truncated m x) ∙ both) in
    (ap (λ (r : ℕ × List ℕ). r.0) same, ap (λ (r : ℕ × List ℕ). r.1) same)

framed_fronts : (s t : ℕ) (a b x y : List ℕ) → framed s a ++ x ≡ framed t b ++ y → (s ≡ t) × (a ≡ b) × (x ≡ y)
framed_fronts s t a b x y e =
    let after : length_octets (length a) ++ (a ++ x) ≡ length_octets (length b) ++ (b ++ y) = sym (append_assoc (length_octets (length a)) a x) ∙ ap tail e
    ∙ append_assoc (length_octets (length b)) b y in
    let lengths = same_lengths (length a) (length b) (a ++ x) (b ++ y) after in
    let contents = same_fronts a b x y lengths.0 lengths.1 in
    (ap front_or_zero e, contents.0, contents.1)

pub some_octets : (a : DerElement) → 0 < length (encoding a)
some_octets (Primitive tag content) = omega arith
some_octets (Constructed tag kids) = omega arith

mutual
  pub formed_fronts : (a b : DerElement) (x y : List ℕ) → IsWellFormed a → IsWellFormed b → encoding a ++ x ≡ encoding b ++ y → (a ≡ b) × (x ≡ y)
  formed_fronts (Primitive s a) (Primitive t b) x y formed formed' e =
      let f = framed_fronts s t a b x y e in
      (ap (λ n. Primitive n a) f.0 ∙ ap (Primitive t) f.1, f.2)
  formed_fronts (Primitive s a) (Constructed t kids) x y formed formed' e =
      let f = framed_fronts s t a (encodings kids) x y e in
      absurd (omega (arith, formed.1, formed'.1, ap form_bit f.0))
  formed_fronts (Constructed s kids) (Primitive t b) x y formed formed' e =
      let f = framed_fronts s t (encodings kids) b x y e in
      absurd (omega (arith, formed.1, formed'.1, ap form_bit f.0))
  formed_fronts (Constructed s kids) (Constructed t kids') x y formed formed' e =
      let f = framed_fronts s t (encodings kids) (encodings kids') x y e in
      (ap (λ n. Constructed n kids) f.0 ∙ ap (Constructed t) (formed_kids kids kids' formed.2 formed'.2 f.1), f.2)

  formed_kids : (ks ls : DerElements) → AreWellFormed ks → AreWellFormed ls → encodings ks ≡ encodings ls → ks ≡ ls
  formed_kids Nil Nil formed formed' e = refl
  formed_kids Nil (Cons b ls) formed formed' e = absurd (omega (arith, some_octets b, length-append (encoding b) (encodings ls), ap length e))
  formed_kids (Cons a ks) Nil formed formed' e = absurd (omega (arith, some_octets a, length-append (encoding a) (encodings ks), ap length e))
  formed_kids (Cons a ks) (Cons b ls) formed formed' e =
      let f = formed_fronts a b (encodings ks) (encodings ls) formed.0 formed'.0 e in
      ap (λ k. Cons k ks) f.0 ∙ ap (Cons b) (formed_kids ks ls formed.1 formed'.1 f.1)

pub fronts : (a b : DerElement) (x y : List ℕ) → IsWellFormed a → IsWellFormed b → IsShort a → IsShort b → encoding a ++ x ≡ encoding b ++ y → (a ≡ b) × (x ≡ y)
fronts a b x y formed formed' short short' e = formed_fronts a b x y formed formed' e

pub same_kids : (ks ls : DerElements) → AreWellFormed ks → AreWellFormed ls → AreShort ks → AreShort ls → encodings ks ≡ encodings ls → ks ≡ ls
same_kids ks ls formed formed' short short' e = formed_kids ks ls formed formed' e

-- well-formed elements have different encodings, however long
pub formed_encoding_once : (a b : DerElement) → IsWellFormed a → IsWellFormed b → encoding a ≡ encoding b → a ≡ b
formed_encoding_once a b formed formed' e = (formed_fronts a b [] [] formed formed' (ap (λ (o : List ℕ). o ++ []) e)).0
