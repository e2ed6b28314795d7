-- A head that is read is the head of an encoding, and the head of an encoding is read.
use Rattle.std.proofs.Common.{◌≡◌, ℕ, suc, ◌%◌, ◌^◌, ◌<◌, ◌≤◌, false, cond, ltb, eqb, List, [], ◌∷◌, ◌++◌, length}
use Rattle.std.proofs.Common.{take, drop, Result, Ok, Err, refl, sym, ap, subst, ◌∙◌, append_assoc, arith}
use Rattle.std.proofs.lemmas.Bool.{ltb-false, le-ltb, eqb-false, ne_eqb}
use Rattle.std.proofs.lemmas.List.{take_at, drop_at, take-append-drop, length-append, length-take-le}
use Rattle.der_core.specs.Borrowed.{contents_octets}
use Rattle.der_core.specs.declared.fault.DerFault.{DerFault}
use Rattle.der_core.specs.declared.fault.DerFault.TheVariants.{Truncated, ReservedTag, HighTag, TooDeep}
use Rattle.der_core.specs.DerElement.{DerElement, Primitive, Constructed, tag_of}
use Rattle.der_core.specs.Encoding.{length_octets, framed, encoding, encodings, IsTag, IsDerWithin}
use Rattle.der_core.specs.Facts.Fronts.{ok_is, length_again}
use Rattle.der_core.specs.Head.{IsOctets, ◌>>=◌, past_bound, length_at, contents_at, head_at, BeginsWithHead, BeginsWithLength, HasHead}
use Rattle.der_core.proofs.Lengths.{bind_ok, guard_ok, HasLength, length_taken}

-- ---- what was written is read again

contents_again : (past : DerFault) (contents rest : List ℕ) → length contents < 2 ^ 32
    → contents_at past ((length_octets (length contents) ++ contents) ++ rest) ≡ Ok (contents, rest)
unfolding contents_at
contents_again past contents rest short =
    let regrouped : (length_octets (length contents) ++ contents) ++ rest ≡ length_octets (length contents) ++ (contents ++ rest) =
    append_assoc (length_octets (length contents)) contents rest in
    let there : ltb (length (contents ++ rest)) (length contents) ≡ false = le-ltb _ _ (omega (arith, length-append contents rest)) in
    rw (
      regrouped,
      length_again past (length contents) (contents ++ rest) short,
      there,
      take_at contents rest (length contents) refl,
      drop_at contents rest (length contents) refl,
    ) refl

pub framed_again : (levels tag : ℕ) (contents rest : List ℕ) → 0 < levels → IsTag tag → length contents < 2 ^ 32
    → head_at levels (framed tag contents ++ rest) ≡ Ok (tag, contents, rest)
unfolding head_at
framed_again levels tag contents rest some is_tag short =
    let not_zero : eqb tag 0 ≡ false = ne_eqb _ _ is_tag.1 in
    let not_high : eqb (tag % 32) 31 ≡ false = ne_eqb _ _ is_tag.2 in
    let not_deep : eqb levels 0 ≡ false = ne_eqb _ _ (λ e. omega arith) in
    rw (not_zero, not_high, not_deep, contents_again (past_bound levels) contents rest short) refl

pub head_again : (levels : ℕ) (a : DerElement) (rest : List ℕ) → IsDerWithin levels a
    → head_at levels (encoding a ++ rest) ≡ Ok (tag_of a, contents_octets a, rest)
head_again levels (Primitive tag content) rest der = framed_again levels tag content rest der.nested der.formed.0 der.short
head_again levels (Constructed tag kids) rest der = framed_again levels tag (encodings kids) rest (omega (arith, der.nested)) der.formed.0 der.short.0

-- ---- what was read is as written

record HasContents (octets contents rest : List ℕ) : Type 0 where
  parts : octets ≡ (length_octets (length contents) ++ contents) ++ rest
  short : length contents < 2 ^ 32

-- a length that was read, and so many octets after it
length_then : (n : ℕ) (octets after : List ℕ) → HasLength octets n after → n ≤ length after → HasContents octets (take n after) (drop n after)
length_then n octets after h enough =
    let len : length (take n after) ≡ n = length-take-le n after enough in
    let whole : after ≡ take n after ++ drop n after = sym (take-append-drop n after) in
    record {
      parts = h.parts ∙ ap (λ (o : List ℕ). length_octets n ++ o) whole ∙ sym (append_assoc (length_octets n) (take n after) (drop n after))
          ∙ ap (λ (m : ℕ). (length_octets m ++ take n after) ++ drop n after) (sym len);
      short = omega (arith, h.short);
    }

contents_taken : (past : DerFault) (octets contents rest : List ℕ) → IsOctets octets → contents_at past octets ≡ Ok (contents, rest)
    → HasContents octets contents rest
unfolding contents_at
contents_taken past octets contents rest fits e =
    let b = bind_ok (length_at past octets) (λ n. cond (ltb (length n.1) n.0) (Err past) (Ok (take n.0 n.1, drop n.0 n.1))) (contents, rest) e in
    let g = guard_ok (ltb (length b.0.1) b.0.0) past (Ok (take b.0.0 b.0.1, drop b.0.0 b.0.1)) (contents, rest) b.2 in
    subst (λ (p : List ℕ × List ℕ). HasContents octets p.0 p.1) (ok_is (take b.0.0 b.0.1, drop b.0.0 b.0.1) (contents, rest) g.1)
    (length_then b.0.0 octets b.0.1 (length_taken past octets b.0.0 b.0.1 fits b.1) (ltb-false _ _ g.0))

-- a tag, and contents of the length that the octets after it begin with
contents_then : (levels : ℕ) (past : DerFault) (tag : ℕ) (after contents rest : List ℕ) → 0 < levels → IsOctets (tag ∷ after)
    → contents_at past after ≡ Ok (contents, rest) → IsTag tag → HasHead levels (tag ∷ after) tag contents rest
contents_then levels past tag after contents rest some fits e is_tag =
    let c = contents_taken past after contents rest (λ i. fits (suc i)) e in
    record { parts = ap (λ (o : List ℕ). tag ∷ o) c.parts; is_tag = is_tag; short = c.short; some = some }

-- a head whose contents and tag were tested
pub sound_taken : (octets : List ℕ) (tag : ℕ) (after contents rest : List ℕ) → octets ≡ tag ∷ after → IsOctets octets
    → contents_at Truncated after ≡ Ok (contents, rest) → IsTag tag → HasHead 64 octets tag contents rest
sound_taken octets tag after contents rest are fits e is_tag =
    rw are (contents_then 64 Truncated tag after contents rest (omega arith) (rw are at fits) e is_tag)

pub head_taken : (levels : ℕ) (octets : List ℕ) (tag : ℕ) (contents rest : List ℕ) → IsOctets octets → head_at levels octets ≡ Ok (tag, contents, rest)
    → HasHead levels octets tag contents rest
unfolding head_at
head_taken levels [] tag contents rest fits e = absurd cc
head_taken levels (first ∷ octets) tag contents rest fits e =
    let last : Result (ℕ × List ℕ × List ℕ) DerFault = contents_at (past_bound levels) octets >>= λ c. Ok (first, c.0, c.1) in
    let z = guard_ok (eqb first 0) ReservedTag (cond (eqb (first % 32) 31) (Err HighTag) (cond (eqb levels 0) (Err TooDeep) last)) (tag, contents, rest) e in
    let h = guard_ok (eqb (first % 32) 31) HighTag (cond (eqb levels 0) (Err TooDeep) last) (tag, contents, rest) z.1 in
    let d = guard_ok (eqb levels 0) TooDeep last (tag, contents, rest) h.1 in
    let b = bind_ok (contents_at (past_bound levels) octets) (λ c. Ok (first, c.0, c.1)) (tag, contents, rest) d.1 in
    let made : ℕ × List ℕ × List ℕ = (first, b.0.0, b.0.1) in
    let found : ℕ × List ℕ × List ℕ = (tag, contents, rest) in
    let not_deep : levels ≡ 0 → ⊥ = eqb-false _ _ d.0 in
    subst (λ (p : ℕ × List ℕ × List ℕ). HasHead levels (first ∷ octets) p.0 p.1 p.2) (ok_is made found b.2)
    (contents_then levels (past_bound levels) first octets b.0.0 b.0.1 (omega arith) fits b.1 (fits 0, eqb-false _ _ z.0, eqb-false _ _ h.0))

-- ---- a head that passes all tests

-- the length in such a head, and what is read by it
pub record IsKnownHead (octets : List ℕ) (tag : ℕ) (after : List ℕ) (n : ℕ) (rest : List ℕ) : Type 0 where
  pub length_is : length_at Truncated after ≡ Ok (n, rest)
  pub enough : n ≤ length rest
  pub read : head_at 64 octets ≡ Ok (tag, take n rest, drop n rest)

known_contents : (past : DerFault) (octets : List ℕ) (c : List ℕ × List ℕ) → contents_at past octets ≡ Ok c
    → (n : ℕ) × (rest : List ℕ) × (length_at past octets ≡ Ok (n, rest)) × (n ≤ length rest) × ((take n rest, drop n rest) ≡ c)
unfolding contents_at
known_contents past octets c e =
    let b = bind_ok (length_at past octets) (λ n. cond (ltb (length n.1) n.0) (Err past) (Ok (take n.0 n.1, drop n.0 n.1))) c e in
    let g = guard_ok (ltb (length b.0.1) b.0.0) past (Ok (take b.0.0 b.0.1, drop b.0.0 b.0.1)) c b.2 in
    (b.0.0, b.0.1, b.1, ltb-false _ _ g.0, ok_is (take b.0.0 b.0.1, drop b.0.0 b.0.1) c g.1)

known_head_at : (tag : ℕ) (after : List ℕ) → BeginsWithHead (tag ∷ after) → (n : ℕ) × (rest : List ℕ) × IsKnownHead (tag ∷ after) tag after n rest
unfolding head_at
known_head_at tag after begins =
    let found : ℕ × List ℕ × List ℕ = (begins.0, begins.1, begins.2) in
    let last : Result (ℕ × List ℕ × List ℕ) DerFault = contents_at Truncated after >>= λ c. Ok (tag, c.0, c.1) in
    let z = guard_ok (eqb tag 0) ReservedTag (cond (eqb (tag % 32) 31) (Err HighTag) last) found begins.3 in
    let h = guard_ok (eqb (tag % 32) 31) HighTag last found z.1 in
    let b = bind_ok (contents_at Truncated after) (λ c. Ok (tag, c.0, c.1)) found h.1 in
    let c = known_contents Truncated after b.0 b.1 in (
      c.0,
      c.1,
      record {
        length_is = c.2;
        enough = c.3;
        read = begins.3 ∙ sym b.2 ∙ sym (ap (λ (p : List ℕ × List ℕ). Ok (tag, p.0, p.1)) c.4);
      },
    )

known_there : (octets : List ℕ) (tag : ℕ) (after : List ℕ) → octets ≡ tag ∷ after → BeginsWithHead octets
    → (n : ℕ) × (rest : List ℕ) × IsKnownHead octets tag after n rest
known_there octets tag after are begins = rw are (known_head_at tag after (rw are at begins))

pub known_length_there : (octets : List ℕ) (tag : ℕ) (after : List ℕ) → octets ≡ tag ∷ after → BeginsWithHead octets → BeginsWithLength after
known_length_there octets tag after are begins = let k = known_there octets tag after are begins in (k.0, k.1, k.2.length_is)

-- what is read by a length that was read
pub known_head_is : (octets : List ℕ) (tag : ℕ) (after : List ℕ) (n : ℕ) (rest : List ℕ) → octets ≡ tag ∷ after → BeginsWithHead octets
    → length_at Truncated after ≡ Ok (n, rest) → IsKnownHead octets tag after n rest
known_head_is octets tag after n rest are begins e =
    let k = known_there octets tag after are begins in
    subst (λ (p : ℕ × List ℕ). IsKnownHead octets tag after p.0 p.1) (ok_is (k.0, k.1) (n, rest) (sym k.2.length_is ∙ e)) k.2

no_head_at : (h : ℕ × List ℕ × List ℕ) → head_at 64 [] ≡ Ok h → ⊥
unfolding head_at
no_head_at h e = absurd cc

-- empty octets begin with no head
pub none_begins : (octets : List ℕ) → octets ≡ [] → BeginsWithHead octets → ⊥
none_begins octets none begins = no_head_at (begins.0, begins.1, begins.2) (rw none at begins.3)
