-- Octets are a certificate table where they begin with an entry and are one behind it.
use Rattle.std.proofs.Common.{◌≡◌, ◌≢◌, ◌↔◌, ℕ, ◌<◌, ◌≤◌, List, [], ◌∷◌, ◌++◌, length, take, drop, replicate, refl, sym, ap, ◌∙◌, subst, arith, ◌⊎◌}
use Rattle.std.proofs.Common.{inl, inr, length-append, append_assoc, append-nil}
use Rattle.std.proofs.Math.Seq.{take-append_seam, drop-append_seam}
use Rattle.std.proofs.lemmas.Bool.{cases_lt}
use Rattle.std.proofs.lemmas.List.{append_cancel_left, length-replicate}
use Rattle.std.specs.List.{AllByRecursion}
use Rattle.pe_core.specs.Fields.{u32_at}
use Rattle.pe_core.specs.Entries.{IsEntry, padding_size, padding, laid_out, AreEntries, HasEntries, IsTable, HasTable, written_table}
use Rattle.pe_core.specs.Facts.Entries.{after, laid_front, long_front, front_number, first_of, one_list}

-- ---- the first entry

pub stated_front : (octets e behind : List ℕ) → IsEntry e → octets ≡ e ++ behind → u32_at octets 0 ≡ length e
stated_front octets e behind is parts =
    ap (λ (o : List ℕ). u32_at o 0) parts ∙ front_number e behind (omega (arith, is.long)) ∙ is.stated

pub no_short : (octets : List ℕ) (size : ℕ) → size ≡ u32_at octets 0 → size < 8
    → (e behind : List ℕ) → IsEntry e → octets ≡ e ++ behind → ⊥
no_short octets size stated short e behind is parts = omega (arith, stated, short, is.long, stated_front octets e behind is parts)

pub no_long : (octets : List ℕ) (size : ℕ) → size ≡ u32_at octets 0 → length octets < size
    → (e behind : List ℕ) → IsEntry e → octets ≡ e ++ behind → ⊥
no_long octets size stated long e behind is parts =
    omega (arith, stated, long, stated_front octets e behind is parts, ap length parts, length-append e behind)

pub cut : (octets front back : List ℕ) (size : ℕ) → size ≡ u32_at octets 0 → 8 ≤ size → octets ≡ front ++ back → length front ≡ size
    → IsEntry front × (octets ≡ front ++ back)
cut octets front back size stated long parts sized =
    let same : u32_at octets 0 ≡ u32_at front 0 =
    ap (λ (o : List ℕ). u32_at o 0) parts ∙ front_number front back (omega (arith, long, sized)) in
    (record { long = omega (arith, long, sized); stated = sym same ∙ sym stated ∙ sym sized }, parts)

no_list : (octets : List ℕ) (entries : List (List ℕ)) → ((e behind : List ℕ) → IsEntry e → octets ≡ e ++ behind → ⊥)
    → AreEntries octets entries → entries ≡ []
no_list octets [] none are = refl
no_list octets (e ∷ es) none are =
    absurd (none e (after (length e) es are.1.0) are.0.0 (are.1.1.written ∙ laid_front e es are.1.0))

pub none_left : (octets : List ℕ) (h : HasEntries octets) → ((e behind : List ℕ) → IsEntry e → octets ≡ e ++ behind → ⊥) → h.0 ≡ []
none_left octets h none = no_list octets h.0 none h.1

pub no_table : (octets : List ℕ) → ((e behind : List ℕ) → IsEntry e → octets ≡ e ++ behind → ⊥) → HasTable octets → ⊥
no_table octets none has = has.1.some (no_list octets has.0 none has.1.are)

-- ---- the last entry

zeros_of : (octets : List ℕ) (entries : List (List ℕ)) → AreEntries octets entries → length octets < 8
    → octets ≡ replicate (length octets) 0
zeros_of octets [] are short =
    let written : octets ≡ replicate are.1.0 0 = are.1.1.written in
    written ∙ ap (λ (n : ℕ). replicate n 0) (sym (length-replicate are.1.0 0) ∙ sym (ap length written))
zeros_of octets (e ∷ es) are short =
    absurd (omega (arith, short, ap length are.1.1.written, long_front e es are.1.0 are.0.0))

alone : (octets e behind : List ℕ) → IsEntry e → octets ≡ e ++ behind → length behind < 8
    → behind ≡ replicate (length behind) 0 → HasTable octets
alone octets e behind is parts short zeros = (
  e ∷ [],
  record {
    some = λ none. absurd cc;
    are = ((is, tt), (length behind, record { few = short; written = parts ∙ ap (λ (o : List ℕ). e ++ o) zeros }));
  },
)

pub ended : (octets e behind : List ℕ) → IsEntry e → octets ≡ e ++ behind → length behind < 8
    → HasTable octets ↔ (behind ≡ replicate (length behind) 0)
ended octets e behind is parts short = (
  λ has. let f = first_of octets has.0 has.1.are e behind is parts in zeros_of behind f.0 (f.2.last short) short,
  λ zeros. alone octets e behind is parts short zeros,
)

-- ---- another entry

grown : (octets e behind next : List ℕ) (entries : List (List ℕ)) → IsEntry e → octets ≡ e ++ behind
    → behind ≡ padding (length e) ++ next → entries ≢ [] → AreEntries next entries → HasTable octets
grown octets e behind next [] is parts filled some are = absurd (some refl)
grown octets e behind next (n ∷ es) is parts filled some are =
    let gap : List ℕ = padding (length e) in
    let others : List ℕ = laid_out (n ∷ es) are.1.0 in
    let written : octets ≡ (e ++ gap) ++ others =
    parts ∙ ap (λ (o : List ℕ). e ++ o) (filled ∙ ap (λ (o : List ℕ). gap ++ o) are.1.1.written)
    ∙ sym (append_assoc e gap others) in (
      e ∷ (n ∷ es),
      record {
        some = λ none. absurd cc;
        are = ((is, are.0), (are.1.0, record { few = are.1.1.few; written = written }));
      },
    )

pub stepped : (octets e behind next : List ℕ) → IsEntry e → octets ≡ e ++ behind → 8 ≤ length behind
    → behind ≡ padding (length e) ++ next → HasTable octets ↔ HasTable next
stepped octets e behind next is parts long filled = (
  λ has.
      let f = first_of octets has.0 has.1.are e behind is parts in
      let m = f.2.more long in
      let same : m.0 ≡ next = append_cancel_left (padding (length e)) m.0 next (sym m.1 ∙ filled) in
      (f.0, subst (λ (o : List ℕ). IsTable o f.0) same m.2),
  λ has. grown octets e behind next has.0 is parts filled has.1.some has.1.are,
)

-- what is between two entries
pub filled_by : (filling : List ℕ) (size : ℕ) → length filling ≡ padding_size size → filling ≡ replicate (length filling) 0
    → filling ≡ padding size
filled_by filling size long zeros = zeros ∙ ap (λ (n : ℕ). replicate n 0) long

pub unfilled : (octets e behind filling next : List ℕ) → IsEntry e → octets ≡ e ++ behind → 8 ≤ length behind
    → behind ≡ filling ++ next → length filling ≡ padding_size (length e)
    → (filling ≡ replicate (length filling) 0 → ⊥) → HasTable octets → ⊥
unfilled octets e behind filling next is parts long cut sized other has =
    let f = first_of octets has.0 has.1.are e behind is parts in
    let m = f.2.more long in
    let gap : List ℕ = padding (length e) in
    let same_length : length filling ≡ length gap = sized ∙ sym (length-replicate (padding_size (length e)) 0) in
    let same : filling ≡ gap =
    sym (take-append_seam filling next) ∙ ap (take (length filling)) (sym cut ∙ m.1)
    ∙ ap (λ (n : ℕ). take n (gap ++ m.0)) same_length ∙ take-append_seam gap m.0 in
    other (same ∙ ap (λ (n : ℕ). replicate n 0) (sym sized))

-- ---- a cursor

rest_is : (e behind rest : List ℕ) (others : List (List ℕ)) → (length behind < 8 → rest ≡ behind)
    → (8 ≤ length behind → rest ≡ drop (padding_size (length e)) behind)
    → (length behind < 8 → AreEntries behind others)
    → (8 ≤ length behind → (next : List ℕ) × (behind ≡ padding (length e) ++ next) × IsTable next others)
    → (length behind < 8) ⊎ (8 ≤ length behind) → AreEntries rest others
rest_is e behind rest others last more are_last are_more (inl short) =
    subst (λ (o : List ℕ). AreEntries o others) (sym (last short)) (are_last short)
rest_is e behind rest others last more are_last are_more (inr long) =
    let m = are_more long in
    let gap : List ℕ = padding (length e) in
    let sized : padding_size (length e) ≡ length gap = sym (length-replicate (padding_size (length e)) 0) in
    let next : drop (padding_size (length e)) behind ≡ m.0 =
    ap (λ (n : ℕ). drop n behind) sized ∙ ap (drop (length gap)) m.1 ∙ drop-append_seam gap m.0 in
    subst (λ (o : List ℕ). AreEntries o others) (sym (more long ∙ next)) m.2.are

pub left_behind : (octets : List ℕ) (h : HasEntries octets) (e behind rest : List ℕ) → IsEntry e → octets ≡ e ++ behind
    → (length behind < 8 → rest ≡ behind) → (8 ≤ length behind → rest ≡ drop (padding_size (length e)) behind)
    → (others : List (List ℕ)) × (h.0 ≡ e ∷ others) × AreEntries rest others
left_behind octets h e behind rest is parts last more =
    let f = first_of octets h.0 h.1 e behind is parts in
    (f.0, f.1, rest_is e behind rest f.0 last more f.2.last f.2.more (cases_lt (length behind) 8))

pub next_are : (octets : List ℕ) (h : HasEntries octets) (e behind rest : List ℕ) (others : List (List ℕ)) → IsEntry e
    → octets ≡ e ++ behind → (length behind < 8 → rest ≡ behind)
    → (8 ≤ length behind → rest ≡ drop (padding_size (length e)) behind) → AreEntries rest others → h.0 ≡ e ∷ others
next_are octets h e behind rest others is parts last more are =
    let l = left_behind octets h e behind rest is parts last more in
    l.1 ∙ ap (λ (os : List (List ℕ)). e ∷ os) (one_list rest l.0 others l.2 are)

pub table_are : (octets : List ℕ) (entries : List (List ℕ)) → HasTable octets → AreEntries octets entries → IsTable octets entries
table_are octets entries has are = subst (λ (es : List (List ℕ)). IsTable octets es) (one_list octets has.0 entries has.1.are are) has.1

-- ---- laws

pub one_table : (octets : List ℕ) (a b : List (List ℕ)) → IsTable octets a → IsTable octets b → a ≡ b
one_table octets a b first second = one_list octets a b first.are second.are

padded_to : (e : List ℕ) (es : List (List ℕ)) → (behind : ℕ) × (behind < 8) × (written_table (e ∷ es) ≡ laid_out (e ∷ es) behind)
padded_to e [] = (padding_size (length e), omega arith, append-nil (e ++ padding (length e)))
padded_to e (n ∷ es) =
    let later = padded_to n es in
    (later.0, later.1, ap (λ (o : List ℕ). (e ++ padding (length e)) ++ o) later.2)

pub written_is : (entries : List (List ℕ)) → entries ≢ [] → AllByRecursion IsEntry entries → IsTable (written_table entries) entries
written_is [] some all = absurd (some refl)
written_is (e ∷ es) some all =
    let p = padded_to e es in
    record { some = some; are = (all, (p.0, record { few = p.1; written = p.2 })) }
