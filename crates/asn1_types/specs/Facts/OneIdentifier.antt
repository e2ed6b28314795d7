-- Contents octets are of at most one OID.
use Rattle.std.specs.Prelude.{◌≡◌, ℕ, ◌+◌, ◌*◌, ◌<◌, ◌≤◌, List, [], ◌∷◌}
use Rattle.std.specs.List.{AllByRecursion-prop}
use Rattle.std.specs.Coded.{Coded-set, coded_ℕ, coded_list, ×_prop, le_prop}
use Rattle.std.proofs.Common.{sym, ap, ◌∙◌, arith}
use mathlib.Core.HLevel.{Σ_prop_path}
use Rattle.asn1_types.specs.Subidentifier.{IsSubidentifier}
use Rattle.asn1_types.specs.Facts.SubidentifierReading.{subidentifiers_once}
use Rattle.asn1_types.specs.ObjectIdentifier.{IsRoot, IsArcs, IsIdentifier, subidentifiers_of, contents_of}

-- The number that the first two arcs make determines them.
pub first_two : (a b c d : ℕ) → IsRoot a b → IsRoot c d → 40 * a + b ≡ 40 * c + d → (a ≡ c) × (b ≡ d)
first_two a b c d h k e = both h.first_low k.first_low h.second_low k.second_low
  where
    both : a ≤ 2 → c ≤ 2 → (a < 2 → b ≤ 39) → (c < 2 → d ≤ 39) → (a ≡ c) × (b ≡ d)
    both ha hc hb hd = (grind arith, grind arith)

-- Arcs with the same subidentifiers are the same.
pub same_arcs : (a b : List ℕ) → IsArcs a → IsArcs b → subidentifiers_of a ≡ subidentifiers_of b → a ≡ b
same_arcs [] b h k e = absurd h
same_arcs (x ∷ []) b h k e = absurd h
same_arcs (x ∷ y ∷ xs) [] h k e = absurd k
same_arcs (x ∷ y ∷ xs) (u ∷ []) h k e = absurd k
same_arcs (x ∷ y ∷ xs) (u ∷ v ∷ us) h k e =
    let number : 40 * x + y ≡ 40 * u + v = cc in
    let more : xs ≡ us = cc in
    let two = first_two x y u v h.0 k.0 number in
    let first = two.0 in
    let second = two.1 in
    cc

-- Arcs with the same contents octets are the same.
pub contents_once : (a b : List ℕ) → IsArcs a → IsArcs b → contents_of a ≡ contents_of b → a ≡ b
contents_once a b h k e = same_arcs a b h k (subidentifiers_once (subidentifiers_of a) (subidentifiers_of b) e)

IsArcs-prop : (arcs : List ℕ) → IsProp (IsArcs arcs)
IsArcs-prop [] = λ h k. absurd h
IsArcs-prop (x ∷ []) = λ h k. absurd h
IsArcs-prop (x ∷ y ∷ xs) = hlevel (le_prop, AllByRecursion-prop IsSubidentifier (λ n. le_prop) xs)

abbrev Named : List ℕ → List ℕ → Type 0
Named contents arcs = IsArcs arcs × (contents ≡ contents_of arcs)

Named-prop : (contents arcs : List ℕ) → IsProp (Named contents arcs)
Named-prop contents arcs = ×_prop (IsArcs-prop arcs) (Coded-set (coded_list coded_ℕ) contents (contents_of arcs))

abbrev named : (contents : List ℕ) → (arcs : List ℕ) × Named contents arcs → IsIdentifier contents
named contents n = record { arcs = n.0; are_arcs = n.1.0; spelled = n.1.1 }

-- That contents octets are of an OID has at most one proof, with its arcs.
pub IsIdentifier-prop : (contents : List ℕ) → IsProp (IsIdentifier contents)
IsIdentifier-prop contents a b =
    let left : (arcs : List ℕ) × Named contents arcs = (a.arcs, (a.are_arcs, a.spelled)) in
    let right : (arcs : List ℕ) × Named contents arcs = (b.arcs, (b.are_arcs, b.spelled)) in
    let same : left ≡ right =
    Σ_prop_path (Named-prop contents) (contents_once a.arcs b.arcs a.are_arcs b.are_arcs (sym a.spelled ∙ b.spelled)) in
    ap (named contents) same
