-- Values wrapped in strings: octets encode at most one, and what is written for a value encodes it.
use Rattle.std.specs.Prelude.{◌≡◌, ℕ, List, [], ◌∷◌, refl}
use Rattle.std.proofs.Common.{sym, subst, ◌∙◌}
use Rattle.der_core.specs.Each.{Prints}
use Rattle.der_core.specs.DerElement.{DerElement}
use Rattle.der_core.specs.Encoding.{encoding, IsDer, IsWellFormed}
use Rattle.der_core.specs.Borrowed.{AreDer}
use Rattle.der_core.specs.Structure.{IsWithin, IsGrammar}
use Rattle.der_core.specs.Facts.Fronts.{formed_encoding_once}

-- octets encode at most one value
pub within_once : {X : Type 0} (spells : DerElement → X → Type 0) → ((element : DerElement) (a b : X) → spells element a → spells element b → a ≡ b)
    → (octets : List ℕ) (a b : X) → IsWithin spells octets a → IsWithin spells octets b → a ≡ b
within_once spells once octets a b p q =
    let same = formed_encoding_once p.element q.element p.der.formed q.der.formed (sym p.encoded ∙ q.encoded) in
    once q.element a b (subst (λ (e : DerElement). spells e a) same p.spelled) q.spelled

-- the encoding of what is written for a value encodes it
pub within_written : {X : Type 0} (spells : DerElement → X → Type 0) (written : X → DerElement) → IsGrammar spells written (λ x. []) → (value : X)
    → AreDer (written value ∷ []) → IsWithin spells (encoding (written value)) value
within_written spells written grammar value der = record { element = written value; der = der.0; encoded = refl; spelled = grammar.spelled value tt }

-- a value with one encoding is within limits if it was read
pub within_bounds : {X : Type 0} (written : X → DerElement) (octets : List ℕ) (value : X) → IsWithin (Prints written) octets value → AreDer (written value ∷ [])
within_bounds written octets value p = (subst IsDer p.spelled p.der, tt)

-- values with one encoding are the same
pub encoded_once : {X : Type 0} (written : X → DerElement) → ((a b : X) → written a ≡ written b → a ≡ b) → ((value : X) → IsWellFormed (written value))
    → (a b : X) → encoding (written a) ≡ encoding (written b) → a ≡ b
encoded_once written one formed a b e = one a b (formed_encoding_once (written a) (written b) (formed a) (formed b) e)
