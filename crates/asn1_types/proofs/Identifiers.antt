-- Octets are the contents of an OID if they are subidentifiers, at least one.
use Rattle.std.proofs.Common.{◌≡◌, ◌≢◌, ◌↔◌, ℕ, Bool, true, false, not, IsTrue, eqb, length, refl, ◌+◌, ◌-◌, ◌*◌, ◌/◌, ◌%◌, ◌<◌}
use Rattle.std.proofs.Common.{◌≤◌, List, [], ◌∷◌, ◌++◌, suc, get_or, take, drop, sym, ap, ap₂, subst, ◌∙◌, inl, inr, arith}
use Rattle.std.proofs.lemmas.Bool.{cases_lt, eqb-true, eqb-false, false≢true}
use Rattle.std.proofs.lemmas.List.{nil_from_length, take_all}
use Rattle.std.specs.List.{AllByRecursion, flat_map}
use Rattle.asn1_types.specs.Subidentifier.{IsSubidentifier, subidentifier, BeginsWithNoSubidentifier}
use Rattle.asn1_types.specs.Facts.SubidentifierReading.{subidentifier_some}
use Rattle.asn1_types.specs.ObjectIdentifier.{IsRoot, IsArcs, IsIdentifier, contents_of}
use Rattle.asn1_types.specs.declared.oid.ObjectIdentifier.{ObjectIdentifier}
use Rattle.asn1_types.specs.Facts.OneIdentifier.{contents_once, IsIdentifier-prop}
use Rattle.asn1_types.proofs.Subidentifiers.{AreSubidentifiers, are_none}

-- the OID whose first two arcs make a number
from_numbers : (octets : List ℕ) (n : ℕ) (ns : List ℕ) → AllByRecursion IsSubidentifier (n ∷ ns)
    → octets ≡ flat_map subidentifier (n ∷ ns) → IsIdentifier octets
from_numbers octets n ns all spelled =
    elim (cases_lt n 80) [
      | inl low ↦ by_arcs (n / 40) (n % 40) (omega arith) (λ _. omega arith) (omega arith)
      | inr high ↦ by_arcs 2 (n - 80) (omega arith) (λ less. absurd (omega arith)) (omega arith)
    ]
  where
    by_arcs : (first second : ℕ) → first ≤ 2 → (first < 2 → second ≤ 39) → 40 * first + second ≡ n → IsIdentifier octets
    by_arcs first second low within number = record {
      arcs = first ∷ second ∷ ns;
      are_arcs = (record { first_low = low; second_low = within; bounded = omega arith }, all.1);
      spelled = spelled ∙ ap (λ m. flat_map subidentifier (m ∷ ns)) (sym number);
    }

numbers_of : (octets arcs : List ℕ) → IsArcs arcs → octets ≡ contents_of arcs → AreSubidentifiers octets × (octets ≢ [])
numbers_of octets [] h e = absurd h
numbers_of octets (x ∷ []) h e = absurd h
numbers_of octets (x ∷ y ∷ xs) h e = (
  record { numbers = (40 * x + y) ∷ xs; bounded = (h.0.bounded, h.1); spelled = e },
  λ none. subidentifier_some (40 * x + y) (flat_map subidentifier xs) (sym e ∙ none),
)

-- contents octets are subidentifiers, at least one
pub contents_are : (octets : List ℕ) → IsIdentifier octets → AreSubidentifiers octets × (octets ≢ [])
contents_are octets identifier = numbers_of octets identifier.arcs identifier.are_arcs identifier.spelled

pub contents_from : (octets : List ℕ) → AreSubidentifiers octets → octets ≢ [] → IsIdentifier octets
contents_from octets are some = by_numbers are.numbers are.bounded are.spelled
  where
    by_numbers : (numbers : List ℕ) → AllByRecursion IsSubidentifier numbers → octets ≡ flat_map subidentifier numbers → IsIdentifier octets
    by_numbers [] all spelled = absurd (some spelled)
    by_numbers (n ∷ ns) all spelled = from_numbers octets n ns all spelled

-- all octets are subidentifiers: they are the contents of an OID unless there are none
pub all_read : (octets : List ℕ) (empty : Bool) → empty ≡ eqb (length octets) 0 → AreSubidentifiers octets
    → IsTrue (not empty) ↔ IsIdentifier octets
all_read octets true e are =
    let none : octets ≡ [] = nil_from_length octets (eqb-true _ _ (sym e)) in
    (λ t. absurd (false≢true t), λ identifier. absurd ((contents_are octets identifier).1 none))
all_read octets false e are =
    (λ t. contents_from octets are (λ none. eqb-false _ _ (sym e) (ap length none)), λ identifier. refl)

-- octets are left that don't begin with a subidentifier
pub some_left : (octets rest : List ℕ) (empty : Bool) → empty ≡ eqb (length rest) 0 → empty ≡ false
    → BeginsWithNoSubidentifier rest → (AreSubidentifiers octets → AreSubidentifiers rest) → IsTrue empty ↔ IsIdentifier octets
some_left octets rest empty e left begins down =
    let some : rest ≢ [] = λ none. eqb-false _ _ (sym e ∙ left) (ap length none) in
    (λ t. absurd (false≢true (sym left ∙ t)), λ identifier. absurd (are_none rest begins some (down (contents_are octets identifier).0)))

-- arcs with the contents octets of an OID are its arcs
pub arcs_are : (contents : List ℕ) (identifier : IsIdentifier contents) (arcs : List ℕ) → IsArcs arcs → contents ≡ contents_of arcs
    → identifier.arcs ≡ arcs
arcs_are contents identifier arcs h e =
    contents_once identifier.arcs arcs identifier.are_arcs h (sym identifier.spelled ∙ e)

-- each number of a list is within limits
pub bounded_from : (numbers : List ℕ) → ((i : ℕ) → IsSubidentifier (get_or numbers i 0)) → AllByRecursion IsSubidentifier numbers
bounded_from [] each = tt
bounded_from (n ∷ ns) each = (each 0, bounded_from ns (λ i. each (suc i)))

-- two numbers that make a root, and more numbers, are arcs
pub arcs_made : (arcs octets : List ℕ) (root : ℕ) → 2 ≤ length arcs → IsRoot (get_or arcs 0 0) (get_or arcs 1 0)
    → root ≡ 40 * get_or arcs 0 0 + get_or arcs 1 0 → ((i : ℕ) → IsSubidentifier (get_or arcs i 0))
    → octets ≡ subidentifier root ++ flat_map subidentifier (take (length arcs - 2) (drop 2 arcs))
    → IsArcs arcs × (octets ≡ contents_of arcs)
arcs_made [] octets root two is_root made each e = absurd (omega arith)
arcs_made (x ∷ []) octets root two is_root made each e = absurd (omega arith)
arcs_made (x ∷ y ∷ xs) octets root two is_root made each e = (
  (is_root, bounded_from xs (λ i. each (suc (suc i)))),
  e ∙ ap₂ (λ n ns. subidentifier n ++ flat_map subidentifier ns) made (take_all (length (x ∷ y ∷ xs) - 2) xs (omega arith)),
)

abbrev identifier_of : (contents : List ℕ) → IsIdentifier contents → ObjectIdentifier
identifier_of contents identifier = record { contents = contents; formed = identifier }

-- OIDs with the same contents octets are the same
pub same_identifier : (a b : ObjectIdentifier) → a.contents ≡ b.contents → a ≡ b
same_identifier a b e =
    subst (λ (contents : List ℕ). (h : IsIdentifier contents) → a ≡ identifier_of contents h) e
    (λ h. ap (identifier_of a.contents) (IsIdentifier-prop a.contents a.formed h)) b.formed

-- The same contents octets have the same arcs.
pub one_list_of_arcs : (a b : List ℕ) (x : IsIdentifier a) (y : IsIdentifier b) → a ≡ b → x.arcs ≡ y.arcs
one_list_of_arcs a b x y e = contents_once x.arcs y.arcs x.are_arcs y.are_arcs (sym x.spelled ∙ e ∙ y.spelled)
