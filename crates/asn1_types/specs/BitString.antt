-- The contents octets of a BIT STRING (X.690 8.6).
use Rattle.std.specs.Prelude.{◌≡◌, ℕ, ◌≤◌, List, [], ◌∷◌}

-- How many bits of the last octet are unused: at most seven, and none if there is no octet (X.690
-- 8.6.2.2, 8.6.2.3).
pub record IsBitString (unused : ℕ) (payload : List ℕ) : Type 0 where
  pub at_most_seven : unused ≤ 7
  pub none_of_nothing : payload ≡ [] → unused ≡ 0

-- The contents octets are the count of unused bits and the octets that hold the bits (X.690
-- 8.6.2.1).
abbrev pub HasBitString : List ℕ → Type 0
HasBitString contents =
    (unused : ℕ) × (payload : List ℕ) × (contents ≡ unused ∷ payload) × IsBitString unused payload
