-- Whether octets are an RSA secret can be decided.
use Rattle.std.specs.Prelude.{◌≡◌, ◌⊎◌, ℕ, zero, suc, ◌^◌, ◌<◌, nat_lt, Bool, true, false, ◌&&◌, List, [], ◌∷◌, ◌++◌, length, take, drop, Result, Ok, Err, refl}
use Rattle.std.specs.Str.{bytes_eq}
use Rattle.std.proofs.Common.{sym, ap, ◌∙◌, subst, append_assoc, append-nil, arith, inl, inr, ltb}
use Rattle.std.proofs.lemmas.Bool.{ltb-true, lt-ltb, and_parts}
use Rattle.std.proofs.lemmas.List.{take_at, drop_at}
use Rattle.std.proofs.lemmas.Slice.Eq.{bytes_eq-Decides}
use Rattle.asn1_types.specs.Integer.{IsInteger}
use Rattle.der_core.specs.declared.fault.DerFault.{DerFault}
use Rattle.der_core.specs.declared.fault.DerFault.TheVariants.{Truncated}
use Rattle.der_core.specs.Encoding.{length_octets, framed, encoding}
use Rattle.der_core.specs.Borrowed.{contents_octets}
use Rattle.der_core.specs.Facts.Fronts.{length_again}
use Rattle.der_core.specs.Head.{length_at}
use Rattle.sig_core.specs.RsaSecret.{RsaNumbers, rsa_private_element, IsRsaSecret}

-- octets begin with a tag, a length, and contents of that length
record Begins (tag : ℕ) (octets : List ℕ) : Type 0 where
  contents : List ℕ
  rest : List ℕ
  short : length contents < 2 ^ 32
  parts : octets ≡ framed tag contents ++ rest

-- the contents and what is left, if there is a length
abbrev parts_by : Result (ℕ × List ℕ) DerFault → List ℕ × List ℕ
parts_by (Ok (n, after)) = (take n after, drop n after)
parts_by (Err fault) = ([], [])

abbrev parts_of : List ℕ → List ℕ × List ℕ
parts_of [] = ([], [])
parts_of (tag ∷ octets) = parts_by (length_at Truncated octets)

parts_again : (tag : ℕ) (contents rest : List ℕ) → length contents < 2 ^ 32 → parts_of (framed tag contents ++ rest) ≡ (contents, rest)
parts_again tag contents rest short =
    let regrouped : (length_octets (length contents) ++ contents) ++ rest ≡ length_octets (length contents) ++ (contents ++ rest) =
    append_assoc (length_octets (length contents)) contents rest in
    rw (
      regrouped,
      length_again Truncated (length contents) (contents ++ rest) short,
      take_at contents rest (length contents) refl,
      drop_at contents rest (length contents) refl,
    ) refl

-- they are determined by the octets
parts_determined : (s t : ℕ) (left right : List ℕ) → left ≡ right → (a : Begins s left) (b : Begins t right) → (a.contents ≡ b.contents) × (a.rest ≡ b.rest)
parts_determined s t left right e a b =
    let same = sym (parts_again s a.contents a.rest a.short) ∙ ap parts_of (sym a.parts ∙ e ∙ b.parts) ∙ parts_again t b.contents b.rest b.short in
    (ap (λ (p : List ℕ × List ℕ). p.0) same, ap (λ (p : List ℕ × List ℕ). p.1) same)

same_parts : (tag : ℕ) (octets : List ℕ) (a b : Begins tag octets) → (a.contents ≡ b.contents) × (a.rest ≡ b.rest)
same_parts tag octets a b = parts_determined tag tag octets octets refl a b

abbrev begins_so : ℕ → List ℕ → Bool
begins_so tag octets =
    nat_lt (length (parts_of octets).0) (2 ^ 32) && bytes_eq octets (framed tag (parts_of octets).0 ++ (parts_of octets).1)

begins_where : (tag : ℕ) (octets : List ℕ) → Begins tag octets → begins_so tag octets ≡ true
begins_where tag octets b =
    let same : parts_of octets ≡ (b.contents, b.rest) = ap parts_of b.parts ∙ parts_again tag b.contents b.rest b.short in
    let short : ltb (length b.contents) (2 ^ 32) ≡ true = lt-ltb _ _ b.short in
    let equal = (bytes_eq-Decides octets (framed tag b.contents ++ b.rest)).1 b.parts in
    rw (same, short, equal) refl

begins_at : (tag : ℕ) (octets : List ℕ) (b : Bool) → begins_so tag octets ≡ b → Begins tag octets ⊎ (Begins tag octets → ⊥)
begins_at tag octets true e =
    let both = and_parts _ _ e in
    inl (record {
      contents = (parts_of octets).0;
      rest = (parts_of octets).1;
      short = ltb-true _ _ both.0;
      parts = (bytes_eq-Decides octets (framed tag (parts_of octets).0 ++ (parts_of octets).1)).0 both.1;
    })
begins_at tag octets false e =
    inr (λ b. let both : true ≡ false = sym (begins_where tag octets b) ∙ e in cc)

begins : (tag : ℕ) (octets : List ℕ) → Begins tag octets ⊎ (Begins tag octets → ⊥)
begins tag octets = begins_at tag octets (begins_so tag octets) refl

-- octets are so many INTEGERs, one after another
abbrev Integers : ℕ → List ℕ → Type 0
Integers zero octets = octets ≡ []
Integers (suc more) octets =
    (first : Begins 2 octets) × IsInteger first.contents × Integers more first.rest

first_integer : (more : ℕ) (octets : List ℕ) (b : Begins 2 octets) (contents : List ℕ) → b.contents ≡ contents
    → Integers more b.rest ⊎ (Integers more b.rest → ⊥) → Integers (suc more) octets ⊎ (Integers (suc more) octets → ⊥)
first_integer more octets b [] e others =
    inr (λ i. i.1 ((same_parts 2 octets i.0 b).0 ∙ e))
first_integer more octets b (octet ∷ contents) e (inl others) = inl (b, (λ none. let no = sym e ∙ none in cc), others)
first_integer more octets b (octet ∷ contents) e (inr none) =
    inr (λ i. none (subst (Integers more) (same_parts 2 octets i.0 b).1 i.2))

integers : (many : ℕ) (octets : List ℕ) → Integers many octets ⊎ (Integers many octets → ⊥)
integers zero [] = inl refl
integers zero (octet ∷ octets) = inr (λ e. cc)
integers (suc more) octets =
    elim (begins 2 octets) [
      | inl b ↦ first_integer more octets b b.contents refl (integers more b.rest)
      | inr none ↦ inr (λ i. none i.0)
    ]

-- they are their own encodings
abbrev written : (many : ℕ) (octets : List ℕ) → Integers many octets → List ℕ
written zero octets i = []
written (suc more) octets i = framed 2 i.0.contents ++ written more i.0.rest i.2

as_written : (many : ℕ) (octets : List ℕ) (i : Integers many octets) → octets ≡ written many octets i
as_written zero octets i = i
as_written (suc more) octets i =
    i.0.parts ∙ ap (λ (o : List ℕ). framed 2 i.0.contents ++ o) (as_written more i.0.rest i.2)

-- ---- a secret from its parts

abbrev numbers_of : (contents : List ℕ) → Integers 9 contents → RsaNumbers
numbers_of contents i = record {
  modulus = i.2.0.contents;
  public_exponent = i.2.2.0.contents;
  private_exponent = i.2.2.2.0.contents;
  prime1 = i.2.2.2.2.0.contents;
  prime2 = i.2.2.2.2.2.0.contents;
  exponent1 = i.2.2.2.2.2.2.0.contents;
  exponent2 = i.2.2.2.2.2.2.2.0.contents;
  coefficient = i.2.2.2.2.2.2.2.2.0.contents;
}

contents_written : (contents : List ℕ) (i : Integers 9 contents) → i.0.contents ≡ 0 ∷ []
    → contents ≡ contents_octets (rsa_private_element (numbers_of contents i))
contents_written contents i version =
    as_written 9 contents i ∙ ap (λ (v : List ℕ). framed 2 v ++ written 8 i.0.rest i.2) version

made : (secret : List ℕ) (b : Begins 0x30 secret) → b.rest ≡ [] → (i : Integers 9 b.contents) → i.0.contents ≡ 0 ∷ [] → IsRsaSecret secret
made secret b none i version =
    let same = contents_written b.contents i version in record {
      numbers = numbers_of b.contents i;
      integers = record {
        modulus = i.2.1;
        public_exponent = i.2.2.1;
        private_exponent = i.2.2.2.1;
        prime1 = i.2.2.2.2.1;
        prime2 = i.2.2.2.2.2.1;
        exponent1 = i.2.2.2.2.2.2.1;
        exponent2 = i.2.2.2.2.2.2.2.1;
        coefficient = i.2.2.2.2.2.2.2.2.1;
      };
      der = record {
        formed = (
          (omega arith, omega arith, omega arith),
          refl,
          (
            ((omega arith, omega arith, omega arith), refl),
            (
              ((omega arith, omega arith, omega arith), refl),
              (
                ((omega arith, omega arith, omega arith), refl),
                (
                  ((omega arith, omega arith, omega arith), refl),
                  (
                    ((omega arith, omega arith, omega arith), refl),
                    (
                      ((omega arith, omega arith, omega arith), refl),
                      (
                        ((omega arith, omega arith, omega arith), refl),
                        (((omega arith, omega arith, omega arith), refl), (((omega arith, omega arith, omega arith), refl), tt)),
                      ),
                    ),
                  ),
                ),
              ),
            ),
          ),
        );
        nested = omega arith;
        short = (
          subst (λ (o : List ℕ). length o < 2 ^ 32) same b.short,
          (
            omega arith,
            (
              i.2.0.short,
              (
                i.2.2.0.short,
                (
                  i.2.2.2.0.short,
                  (i.2.2.2.2.0.short, (i.2.2.2.2.2.0.short, (i.2.2.2.2.2.2.0.short, (i.2.2.2.2.2.2.2.0.short, (i.2.2.2.2.2.2.2.2.0.short, tt))))),
                ),
              ),
            ),
          ),
        );
      };
      encoded = b.parts ∙ ap (λ (o : List ℕ). framed 0x30 b.contents ++ o) none ∙ append-nil (framed 0x30 b.contents) ∙ ap (framed 0x30) same;
    }

-- ---- the parts of a secret

abbrev begun : (secret : List ℕ) → IsRsaSecret secret → Begins 0x30 secret
begun secret s = record {
  contents = contents_octets (rsa_private_element s.numbers);
  rest = [];
  short = s.der.short.0;
  parts = s.encoded ∙ sym (append-nil (encoding (rsa_private_element s.numbers)));
}

abbrev begun_integer : (contents rest : List ℕ) → length contents < 2 ^ 32 → Begins 2 (framed 2 contents ++ rest)
begun_integer contents rest short = record { contents = contents; rest = rest; short = short; parts = refl }

zero_is : IsInteger (0 ∷ [])
zero_is none = cc

abbrev held : (secret : List ℕ) (s : IsRsaSecret secret) → Integers 9 (begun secret s).contents
held secret s =
    let n = s.numbers in
    let after_coefficient : List ℕ = [] in
    let after_exponent2 = framed 2 n.coefficient ++ after_coefficient in
    let after_exponent1 = framed 2 n.exponent2 ++ after_exponent2 in
    let after_prime2 = framed 2 n.exponent1 ++ after_exponent1 in
    let after_prime1 = framed 2 n.prime2 ++ after_prime2 in
    let after_private_exponent = framed 2 n.prime1 ++ after_prime1 in
    let after_public_exponent = framed 2 n.private_exponent ++ after_private_exponent in
    let after_modulus = framed 2 n.public_exponent ++ after_public_exponent in
    let after_version = framed 2 n.modulus ++ after_modulus in (
      begun_integer (0 ∷ []) after_version s.der.short.1.0,
      zero_is,
      (
        begun_integer n.modulus after_modulus s.der.short.1.1.0,
        s.integers.modulus,
        (
          begun_integer n.public_exponent after_public_exponent s.der.short.1.1.1.0,
          s.integers.public_exponent,
          (
            begun_integer n.private_exponent after_private_exponent s.der.short.1.1.1.1.0,
            s.integers.private_exponent,
            (
              begun_integer n.prime1 after_prime1 s.der.short.1.1.1.1.1.0,
              s.integers.prime1,
              (
                begun_integer n.prime2 after_prime2 s.der.short.1.1.1.1.1.1.0,
                s.integers.prime2,
                (
                  begun_integer n.exponent1 after_exponent1 s.der.short.1.1.1.1.1.1.1.0,
                  s.integers.exponent1,
                  (
                    begun_integer n.exponent2 after_exponent2 s.der.short.1.1.1.1.1.1.1.1.0,
                    s.integers.exponent2,
                    (begun_integer n.coefficient after_coefficient s.der.short.1.1.1.1.1.1.1.1.1.0, s.integers.coefficient, refl),
                  ),
                ),
              ),
            ),
          ),
        ),
      ),
    )

-- ---- whether there is one

with_version : (secret : List ℕ) (b : Begins 0x30 secret) → b.rest ≡ [] → (i : Integers 9 b.contents) (test : Bool) → bytes_eq i.0.contents (0 ∷ []) ≡ test
    → IsRsaSecret secret ⊎ (IsRsaSecret secret → ⊥)
with_version secret b none i true e = inl (made secret b none i ((bytes_eq-Decides i.0.contents (0 ∷ [])).0 e))
with_version secret b none i false e =
    inr (λ s.
    let same = (same_parts 0x30 secret b (begun secret s)).0 in
    let version : i.0.contents ≡ 0 ∷ [] = (parts_determined 2 2 b.contents (begun secret s).contents same i.0 (held secret s).0).0 in
    let both : true ≡ false = sym ((bytes_eq-Decides i.0.contents (0 ∷ [])).1 version) ∙ e in
    cc)

with_rest : (secret : List ℕ) (b : Begins 0x30 secret) (rest : List ℕ) → b.rest ≡ rest → Integers 9 b.contents ⊎ (Integers 9 b.contents → ⊥)
    → IsRsaSecret secret ⊎ (IsRsaSecret secret → ⊥)
with_rest secret b [] none (inl i) = with_version secret b none i (bytes_eq i.0.contents (0 ∷ [])) refl
with_rest secret b [] none (inr other) =
    inr (λ s. other (subst (Integers 9) (sym (same_parts 0x30 secret b (begun secret s)).0) (held secret s)))
with_rest secret b (octet ∷ rest) more tested =
    inr (λ s. let no : octet ∷ rest ≡ [] = sym more ∙ (same_parts 0x30 secret b (begun secret s)).1 in cc)

-- whether octets are a secret of RSA
pub rsa_secret_or_none : (secret : List ℕ) → IsRsaSecret secret ⊎ (IsRsaSecret secret → ⊥)
rsa_secret_or_none secret =
    elim (begins 0x30 secret) [
      | inl b ↦ with_rest secret b b.rest refl (integers 9 b.contents)
      | inr none ↦ inr (λ s. none (begun secret s))
    ]
