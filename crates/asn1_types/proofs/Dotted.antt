-- The dotted text of arcs parses unambiguously, piece by piece, and is printed from contents octets
-- arc by arc.
use Rattle.std.proofs.Common.{◌≡◌, ◌≢◌, ℕ, ◌+◌, ◌*◌, ◌<◌, zero, suc, Bool, false, eqb, List, [], ◌∷◌, ◌++◌, map}
use Rattle.std.proofs.Common.{length, get_or, take, append_assoc, append-nil, refl, sym, ap, ap₂, subst, ◌∙◌, arith}
use Rattle.std.specs.List.{All, AllByRecursion, flat_map, slice_split, join_with_byte}
use Rattle.std.specs.Fmt.{decimal}
use Rattle.std.specs.Str.Parse.{AllDigits}
use Rattle.std.proofs.lemmas.Bool.{ne_eqb}
use Rattle.std.proofs.lemmas.Fmt.{decimal_is_IsNumeral_wide}
use Rattle.std.proofs.lemmas.List.{map_push, take_more}
use Rattle.std.proofs.lemmas.List.Elements.{All-from_recursion}
use Rattle.std.proofs.lemmas.List.Splits.{slice_split_none, slice_split_at, join_with_byte-slice_split}
use Rattle.std.proofs.lemmas.Str.Parse.{digit_from_value}
use Rattle.asn1_types.specs.Subidentifier.{IsSubidentifier, subidentifier, BeginsWithNoSubidentifier}
use Rattle.asn1_types.specs.Facts.SubidentifierReading.{subidentifier_once, subidentifier_some}
use Rattle.asn1_types.specs.ObjectIdentifier.{IsRoot, IsArcs, contents_of, dot, dotted, IsDottedText, IsIdentifier, RefusesText}
use Rattle.asn1_types.specs.declared.error.TextError.{TextError}
use Rattle.asn1_types.specs.declared.error.TextError.TheVariants.{BadText, Memory}
use Rattle.asn1_types.specs.Facts.OneIdentifier.{first_two}
use Rattle.asn1_types.proofs.Decimals.{decimal_once}

-- whether an octet is a dot
abbrev pub is_dot : ℕ → Bool
is_dot octet = eqb octet 46

-- ---- pieces

no_dots : (digits : List ℕ) → AllDigits 10 digits → AllByRecursion (λ octet. is_dot octet ≡ false) digits
no_dots [] all = tt
no_dots (c ∷ cs) all = (ne_eqb c 46 (λ e. let range = digit_from_value c all.0 in omega arith), no_dots cs all.1)

lacks_dot : (n : ℕ) → IsSubidentifier n → All (λ octet. is_dot octet ≡ false) (decimal n)
lacks_dot n bounded =
    All-from_recursion (λ octet. is_dot octet ≡ false) (decimal n) (no_dots (decimal n) (decimal_is_IsNumeral_wide n (omega arith)).0.1)

-- the pieces of a dotted text are its arcs
pub pieces_are : (n : ℕ) (ns : List ℕ) → AllByRecursion IsSubidentifier (n ∷ ns)
    → slice_split is_dot (dotted (n ∷ ns)) ≡ map decimal (n ∷ ns)
pieces_are n [] all = slice_split_none is_dot (decimal n) (lacks_dot n all.0)
pieces_are n (m ∷ ms) all =
    slice_split_at is_dot (decimal n) 46 (dotted (m ∷ ms)) (lacks_dot n all.0) refl
    ∙ ap (λ pieces. decimal n ∷ pieces) (pieces_are m ms all.1)

pub dotted_from_pieces : (text arcs : List ℕ) → map decimal arcs ≡ slice_split is_dot text → text ≡ dotted arcs
dotted_from_pieces text arcs e = sym (join_with_byte-slice_split 46 text) ∙ ap (join_with_byte 46) (sym e)

arcs_bounded : (arcs : List ℕ) → IsArcs arcs → AllByRecursion IsSubidentifier arcs
arcs_bounded [] h = absurd h
arcs_bounded (x ∷ []) h = absurd h
arcs_bounded (x ∷ y ∷ xs) h =
    let low = h.0.first_low in
    let bounded = h.0.bounded in
    (omega arith, (omega arith, h.1))

-- the pieces of an OID's text
arc_pieces : (text arcs : List ℕ) → IsArcs arcs → text ≡ dotted arcs → slice_split is_dot text ≡ map decimal arcs
arc_pieces text [] h e = absurd h
arc_pieces text (x ∷ xs) h e = ap (slice_split is_dot) e ∙ pieces_are x xs (arcs_bounded (x ∷ xs) h)

decimals_once : (xs ys : List ℕ) → AllByRecursion IsSubidentifier xs → AllByRecursion IsSubidentifier ys
    → map decimal xs ≡ map decimal ys → xs ≡ ys
decimals_once [] [] h k e = refl
decimals_once [] (y ∷ ys) h k e = cc
decimals_once (x ∷ xs) [] h k e = cc
decimals_once (x ∷ xs) (y ∷ ys) h k e =
    let digits : decimal x ≡ decimal y = cc in
    let more : map decimal xs ≡ map decimal ys = cc in
    ap₂ (λ n ns. n ∷ ns) (decimal_once x y h.0 k.0 digits) (decimals_once xs ys h.1 k.1 more)

-- arcs with the text of an OID are its arcs
pub arcs_once : (arcs : List ℕ) (text : List ℕ) → text ≡ dotted arcs → AllByRecursion IsSubidentifier arcs → IsDottedText text → IsArcs arcs
arcs_once arcs text e all t = by_arcs arcs all t.arcs t.are_arcs (sym e ∙ t.printed)
  where
    by_arcs : (xs : List ℕ) → AllByRecursion IsSubidentifier xs → (ys : List ℕ) → IsArcs ys → dotted xs ≡ dotted ys → IsArcs xs
    by_arcs [] h [] k e = absurd k
    by_arcs [] h (y ∷ []) k e = absurd k
    by_arcs [] h (y ∷ z ∷ zs) k e = let pieces = arc_pieces [] (y ∷ z ∷ zs) k e in cc
    by_arcs (x ∷ xs) h ys k e =
        let pieces = sym (pieces_are x xs h) ∙ arc_pieces (dotted (x ∷ xs)) ys k e in
        subst IsArcs (sym (decimals_once (x ∷ xs) ys h (arcs_bounded ys k) pieces)) k

-- arcs with the same text are the same
pub dotted_once : (xs ys : List ℕ) → IsArcs xs → IsArcs ys → dotted xs ≡ dotted ys → xs ≡ ys
dotted_once xs ys h k e =
    decimals_once xs ys (arcs_bounded xs h) (arcs_bounded ys k)
    (sym (arc_pieces (dotted xs) xs h refl) ∙ arc_pieces (dotted xs) ys k e)

piece_at : (arcs : List ℕ) (place : ℕ) (piece : List ℕ) → AllByRecursion IsSubidentifier arcs → place < length (map decimal arcs)
    → piece ≡ get_or (map decimal arcs) place piece → ((arc : ℕ) → IsSubidentifier arc → piece ≢ decimal arc) → ⊥
piece_at [] place piece all within at no_arc = absurd (omega arith)
piece_at (x ∷ xs) zero piece all within at no_arc = no_arc x all.0 at
piece_at (x ∷ xs) (suc place) piece all within at no_arc = piece_at xs place piece all.1 (omega arith) at no_arc

-- a piece that isn't the digits of a number is in no OID's text
pub bad_piece : (text : List ℕ) (place : ℕ) (piece : List ℕ) → place < length (slice_split is_dot text)
    → piece ≡ get_or (slice_split is_dot text) place piece → ((arc : ℕ) → IsSubidentifier arc → piece ≢ decimal arc)
    → IsDottedText text → ⊥
bad_piece text place piece within at no_arc t =
    let pieces = arc_pieces text t.arcs t.are_arcs t.printed in
    piece_at t.arcs place piece (arcs_bounded t.arcs t.are_arcs) (subst (λ ps. place < length ps) pieces within)
    (at ∙ ap (λ ps. get_or ps place piece) pieces) no_arc

-- one more piece is the digits of one more arc
pub one_more_piece : (text arcs pushed piece : List ℕ) (count next arc : ℕ) → map decimal arcs ≡ take count (slice_split is_dot text)
    → pushed ≡ arcs ++ arc ∷ [] → count < length (slice_split is_dot text) → piece ≡ get_or (slice_split is_dot text) count piece
    → piece ≡ decimal arc → next ≡ count + 1 → map decimal pushed ≡ take next (slice_split is_dot text)
one_more_piece text arcs pushed piece count next arc so_far push within at printed step =
    let pieces = slice_split is_dot text in
    ap (map decimal) push ∙ map_push decimal arcs arc
    ∙ ap₂ (λ ps p. ps ++ p ∷ []) so_far (sym printed ∙ at)
    ∙ sym (take_more pieces count piece within) ∙ ap (λ k. take k pieces) (sym step)

pub one_more_bounded : (arcs pushed : List ℕ) (arc : ℕ) → AllByRecursion IsSubidentifier arcs → IsSubidentifier arc
    → pushed ≡ arcs ++ arc ∷ [] → AllByRecursion IsSubidentifier pushed
one_more_bounded arcs pushed arc all bounded push = subst (AllByRecursion IsSubidentifier) (sym push) (appended arcs all)
  where
    appended : (xs : List ℕ) → AllByRecursion IsSubidentifier xs → AllByRecursion IsSubidentifier (xs ++ arc ∷ [])
    appended [] h = (bounded, tt)
    appended (x ∷ xs) h = (h.0, appended xs h.1)

-- ---- printing

-- arcs, each with a dot before it
abbrev pub more_arcs : List ℕ → List ℕ
more_arcs arcs = flat_map (λ arc. dot ∷ decimal arc) arcs

-- a part of the text is written, and the rest of the octets is of the arcs that are still to print
pub record IsPrinting (text written rest : List ℕ) : Type 0 where
  pub left : List ℕ
  pub bounded : AllByRecursion IsSubidentifier left
  pub spelled : rest ≡ flat_map subidentifier left
  pub whole : text ≡ written ++ more_arcs left

dotted_is : (x : ℕ) (xs : List ℕ) → dotted (x ∷ xs) ≡ decimal x ++ more_arcs xs
dotted_is x [] = sym (append-nil (decimal x))
dotted_is x (y ∷ ys) = ap (λ rest. decimal x ++ (dot ∷ rest)) (dotted_is y ys)

-- the first two arcs are written
pub printing_begins : (contents : List ℕ) (identifier : IsIdentifier contents) (root first second : ℕ) (rest : List ℕ)
    → contents ≡ subidentifier root ++ rest → IsRoot first second → root ≡ 40 * first + second
    → IsPrinting (dotted identifier.arcs) (decimal first ++ (dot ∷ decimal second)) rest
printing_begins contents identifier root first second rest begins is_root made =
    by_arcs identifier.arcs identifier.are_arcs (sym identifier.spelled ∙ begins)
  where
    by_arcs : (arcs : List ℕ) → IsArcs arcs → contents_of arcs ≡ subidentifier root ++ rest
        → IsPrinting (dotted arcs) (decimal first ++ (dot ∷ decimal second)) rest
    by_arcs [] h e = absurd h
    by_arcs (x ∷ []) h e = absurd h
    by_arcs (x ∷ y ∷ xs) h e =
        let one = subidentifier_once (40 * x + y) root (flat_map subidentifier xs) rest e in
        let two = first_two x y first second h.0 is_root (one.0 ∙ made) in record {
          left = xs;
          bounded = h.1;
          spelled = sym one.1;
          whole =
              dotted_is x (y ∷ xs)
              ∙ ap₂ (λ a b. decimal a ++ (dot ∷ (decimal b ++ more_arcs xs))) two.0 two.1
              ∙ sym (append_assoc (decimal first) (dot ∷ decimal second) (more_arcs xs));
        }

-- one more arc is written
pub printing_goes_on : (text written rest after : List ℕ) (arc : ℕ) → IsPrinting text written rest
    → rest ≡ subidentifier arc ++ after → IsPrinting text (written ++ (dot ∷ decimal arc)) after
printing_goes_on text written rest after arc printing begins =
    by_left printing.left printing.bounded (sym begins ∙ printing.spelled) printing.whole
  where
    by_left : (left : List ℕ) → AllByRecursion IsSubidentifier left → subidentifier arc ++ after ≡ flat_map subidentifier left
        → text ≡ written ++ more_arcs left → IsPrinting text (written ++ (dot ∷ decimal arc)) after
    by_left [] all e whole = absurd (subidentifier_some arc after e)
    by_left (x ∷ xs) all e whole =
        let one = subidentifier_once arc x after (flat_map subidentifier xs) e in record {
          left = xs;
          bounded = all.1;
          spelled = one.1;
          whole =
              whole ∙ ap (λ n. written ++ (dot ∷ (decimal n ++ more_arcs xs))) (sym one.0)
              ∙ sym (append_assoc written (dot ∷ decimal arc) (more_arcs xs));
        }

-- no octets are left
pub printing_ends : (text written rest : List ℕ) → IsPrinting text written rest → BeginsWithNoSubidentifier rest → text ≡ written
printing_ends text written rest printing begins = by_left printing.left printing.bounded printing.spelled printing.whole
  where
    by_left : (left : List ℕ) → AllByRecursion IsSubidentifier left → rest ≡ flat_map subidentifier left
        → text ≡ written ++ more_arcs left → text ≡ written
    by_left [] all spelled whole = whole ∙ append-nil written
    by_left (x ∷ xs) all spelled whole = absurd (begins x (flat_map subidentifier xs) all.0 spelled)

-- ---- results of the parsers

-- a refusal of a larger form is one of a smaller
pub refused_as : (P Q : Type 0) → (Q → P) → (e : TextError) → RefusesText P e → RefusesText Q e
refused_as P Q within BadText refused = λ q. refused (within q)
refused_as P Q within Memory refused = tt
