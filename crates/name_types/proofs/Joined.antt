-- Texts joined by an octet.
use Rattle.std.proofs.Common.{◌≡◌, ℕ, List, [], ◌∷◌, ◌++◌, map, sym, ap, ◌∙◌, append-nil, length, take, take_all, ◌≤◌}
use Rattle.std.specs.Prelude.{flat_map}
use Rattle.std.specs.List.{join_with_byte}

-- the first, then each other after the octet
pub join_from_first : {X : Type 0} (octet : ℕ) (text : X → List ℕ) (x : X) (xs : List X)
    → join_with_byte octet (map text (x ∷ xs)) ≡ text x ++ flat_map (λ y. octet ∷ text y) xs
join_from_first octet text x [] = sym (append-nil (text x))
join_from_first octet text x (y ∷ xs) = ap (λ t. text x ++ (octet ∷ t)) (join_from_first octet text y xs)

pub join_whole : {X : Type 0} (octet : ℕ) (text : X → List ℕ) (x : X) (xs all : List X) (n : ℕ) → all ≡ x ∷ xs → length xs ≤ n
    → text x ++ flat_map (λ y. octet ∷ text y) (take n xs) ≡ join_with_byte octet (map text all)
join_whole octet text x xs all n parts whole =
    ap (λ ys. text x ++ flat_map (λ y. octet ∷ text y) ys) (take_all n xs whole)
    ∙ sym (ap (λ ys. join_with_byte octet (map text ys)) parts ∙ join_from_first octet text x xs)
