-- The first two arcs among the pieces of a text, found one after the other.
use Rattle.std.proofs.Common.{◌≡◌, ◌↔◌, IsTrue, Bool, not, ap, ℕ, List, [], ◌∷◌, ◌++◌, ◌+◌, ◌<◌}
use Rattle.std.proofs.Common.{Option, Some, None, true, false, get_or, length, map, take, refl, subst}
use Rattle.std.specs.Prelude.{MatchOption}
use Rattle.std.specs.Fmt.{decimal}
use Rattle.std.specs.List.{AllByRecursion, slice_split}
use Rattle.std.specs.Option.{is_some}
use Rattle.asn1_types.specs.Subidentifier.{IsSubidentifier}
use Rattle.asn1_types.specs.ObjectIdentifier.{IsArcs, IsDottedText, IsRoot}
use Rattle.asn1_types.proofs.Dotted.{arcs_once, dotted_from_pieces, is_dot, one_more_bounded, one_more_piece}

abbrev pub first_arc : List ℕ → Option ℕ
first_arc [] = None
first_arc (x ∷ xs) = Some x

abbrev pub second_arc : List ℕ → Option ℕ
second_arc [] = None
second_arc (x ∷ []) = None
second_arc (x ∷ y ∷ xs) = Some y

-- So many pieces are arcs, and these are the first and the second.
pub record AreSeen (text : List ℕ) (count : ℕ) (first second : Option ℕ) : Type 0 where
  pub arcs : List ℕ
  pub bounded : AllByRecursion IsSubidentifier arcs
  pub are : map decimal arcs ≡ take count (slice_split is_dot text)
  pub first_is : first_arc arcs ≡ first
  pub second_is : second_arc arcs ≡ second

-- an arc after none, after one, and after two or more
pub behind_none : (arcs : List ℕ) (arc : ℕ) → first_arc arcs ≡ None → (first_arc (arcs ++ arc ∷ []) ≡ Some arc)
    × (second_arc (arcs ++ arc ∷ []) ≡ second_arc arcs)
behind_none [] arc none = (refl, refl)
behind_none (x ∷ xs) arc none = absurd cc

pub behind_one : (arcs : List ℕ) (arc x : ℕ) → first_arc arcs ≡ Some x → second_arc arcs ≡ None
    → (first_arc (arcs ++ arc ∷ []) ≡ first_arc arcs) × (second_arc (arcs ++ arc ∷ []) ≡ Some arc)
behind_one [] arc x some none = absurd cc
behind_one (y ∷ []) arc x some none = (refl, refl)
behind_one (y ∷ z ∷ zs) arc x some none = absurd cc

pub behind_two : (arcs : List ℕ) (arc x : ℕ) → second_arc arcs ≡ Some x → (first_arc (arcs ++ arc ∷ []) ≡ first_arc arcs)
    × (second_arc (arcs ++ arc ∷ []) ≡ second_arc arcs)
behind_two [] arc x some = absurd cc
behind_two (y ∷ []) arc x some = absurd cc
behind_two (y ∷ z ∷ zs) arc x some = (refl, refl)

-- one more piece is one more arc
pub one_more_seen : (text : List ℕ) (count next : ℕ) (first second now then : Option ℕ) (piece : List ℕ) (arc : ℕ) (seen : AreSeen text count first second)
    → IsSubidentifier arc
    → count < length (slice_split is_dot text) → piece ≡ get_or (slice_split is_dot text) count piece → piece ≡ decimal arc → next ≡ count + 1
    → (first_arc (seen.arcs ++ arc ∷ []) ≡ now) × (second_arc (seen.arcs ++ arc ∷ []) ≡ then) → AreSeen text next now then
one_more_seen text count next first second now then piece arc seen bounded within at printed step kept = record {
  arcs = seen.arcs ++ arc ∷ [];
  bounded = one_more_bounded seen.arcs (seen.arcs ++ arc ∷ []) arc seen.bounded bounded refl;
  are = one_more_piece text seen.arcs (seen.arcs ++ arc ∷ []) piece count next arc seen.are refl within at printed step;
  first_is = kept.0;
  second_is = kept.1;
}

-- what a test for nothing shows
pub none_of : (o : Option ℕ) (test : Bool) → is_some o ≡ not test → test ≡ true → o ≡ None
none_of None test e is = refl
none_of (Some x) test e is = absurd (cc (ap not is))

pub some_of : (o : Option ℕ) (test : Bool) → is_some o ≡ not test → test ≡ false → (x : ℕ) × (o ≡ Some x)
some_of None test e is = absurd (cc (ap not is))
some_of (Some x) test e is = (x, refl)

are_root : (arcs : List ℕ) (x y : ℕ) → first_arc arcs ≡ Some x → second_arc arcs ≡ Some y → IsArcs arcs → IsRoot x y
are_root [] x y p q h = absurd h
are_root (a ∷ []) x y p q h = absurd h
are_root (a ∷ b ∷ more) x y p q h =
    let one : a ≡ x = cc in
    let other : b ≡ y = cc in
    subst (λ (n : ℕ). IsRoot n y) one (subst (IsRoot a) other h.0)

root_are : (arcs : List ℕ) (x y : ℕ) → first_arc arcs ≡ Some x → second_arc arcs ≡ Some y → AllByRecursion IsSubidentifier arcs → IsRoot x y → IsArcs arcs
root_are [] x y p q all h = absurd cc
root_are (a ∷ []) x y p q all h = absurd cc
root_are (a ∷ b ∷ more) x y p q all h =
    let one : x ≡ a = cc in
    let other : y ≡ b = cc in
    (subst (λ (n : ℕ). IsRoot n b) one (subst (IsRoot x) other h), all.1.1)

-- if all pieces were seen, the text is that of an OID exactly if the first two arcs make a number
pub dotted_by_root : (text arcs : List ℕ) (x y : ℕ) (root : Option ℕ) → map decimal arcs ≡ slice_split is_dot text → AllByRecursion IsSubidentifier arcs
    → first_arc arcs ≡ Some x → second_arc arcs ≡ Some y
    → MatchOption root (IsRoot x y → ⊥) (λ n. IsRoot x y) → IsTrue (is_some root) ↔ IsDottedText text
dotted_by_root text arcs x y None are all p q none =
    (λ w. absurd cc, λ t. absurd (none (are_root arcs x y p q (arcs_once arcs text (dotted_from_pieces text arcs are) all t))))
dotted_by_root text arcs x y (Some n) are all p q root = (
  λ _. record { arcs = arcs; are_arcs = root_are arcs x y p q all root; printed = dotted_from_pieces text arcs are },
  λ _. refl,
)

no_arcs : (arcs : List ℕ) → second_arc arcs ≡ None → IsArcs arcs → ⊥
no_arcs [] none h = h
no_arcs (a ∷ []) none h = h
no_arcs (a ∷ b ∷ more) none h = absurd cc

-- and isn't if there is no second arc
pub not_dotted : (text arcs : List ℕ) → map decimal arcs ≡ slice_split is_dot text → AllByRecursion IsSubidentifier arcs → second_arc arcs ≡ None
    → IsDottedText text → ⊥
not_dotted text arcs are all none t = no_arcs arcs none (arcs_once arcs text (dotted_from_pieces text arcs are) all t)

pub no_first_no_second : (arcs : List ℕ) → first_arc arcs ≡ None → second_arc arcs ≡ None
no_first_no_second [] none = refl
no_first_no_second (x ∷ xs) none = absurd cc
