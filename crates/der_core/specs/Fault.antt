-- The first fault of octets that don't begin with an element: the first test of an element that
-- fails. Elements before it are skipped whole, by their encodings.
use Rattle.std.specs.Prelude.{◌≡◌, ℕ, suc, ◌+◌, ◌<◌, List, ◌++◌, length, Ok, Err}
use Rattle.der_core.specs.declared.fault.DerFault.{DerFault}
use Rattle.der_core.specs.DerElement.{DerElement}
use Rattle.der_core.specs.Encoding.{length_octets, encoding, form_bit, IsDerWithin, most_levels}
use Rattle.der_core.specs.Head.{head_at}

-- how many octets the identifier and the length of such contents have
abbrev pub header_length : List ℕ → ℕ
header_length contents = length (length_octets (length contents)) + 1

-- A start is where an element is tested: its offset in all the octets, the octets from there to its
-- bound, and how many levels are left.
pub data IsStart (all : List ℕ) : ℕ → List ℕ → ℕ → Type 0 where
  -- the outermost element, bounded by the end of all the octets
  Outermost : IsStart all 0 all most_levels
  -- the first element in a constructed one whose own tests pass, bounded by the end of its contents
  Within : {place levels tag : ℕ} {octets contents rest : List ℕ}
      → IsStart all place octets (suc levels)
      → head_at (suc levels) octets ≡ Ok (tag, contents, rest) → form_bit tag ≡ 1
      → 0 < length contents → IsStart all (place + header_length contents) contents levels
  -- an element that follows another, in the contents of the same one
  After : {place levels : ℕ} {octets rest : List ℕ} {element : DerElement}
      → IsStart all place octets levels → levels < most_levels → IsDerWithin levels element
      → octets ≡ encoding element ++ rest → 0 < length rest
      → IsStart all (place + length (encoding element)) rest levels

-- A test of the element at this offset fails, and this fault is the first.
pub record IsFirstFault (all : List ℕ) (place : ℕ) (fault : DerFault) : Type 0 where
  pub octets : List ℕ
  pub levels : ℕ
  pub start : IsStart all place octets levels
  pub fails : head_at levels octets ≡ Err fault
