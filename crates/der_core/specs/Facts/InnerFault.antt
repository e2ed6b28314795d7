-- The fault of a part of the octets, counted from the beginning of the part, as a reader meets it.
use Rattle.std.specs.Prelude.{◌≡◌, ℕ, suc, ◌+◌, ◌<◌, List, ◌++◌, length, Ok, Err}
use Rattle.der_core.specs.declared.fault.DerFault.{DerFault}
use Rattle.der_core.specs.DerElement.{DerElement}
use Rattle.der_core.specs.Encoding.{encoding, form_bit, IsDerWithin}
use Rattle.der_core.specs.Fault.{header_length}
use Rattle.der_core.specs.Head.{head_at}

-- A fault of an element is its own or one of its kids; one of its kids is of the first, or of those
-- after it.
mutual
  pub data ElementFault : ℕ → List ℕ → ℕ → DerFault → Type 0 where
    Here : {levels : ℕ} {octets : List ℕ} {fault : DerFault} → head_at levels octets ≡ Err fault → ElementFault levels octets 0 fault
    Inside : {levels tag k n : ℕ} {octets contents rest : List ℕ} {fault : DerFault} →
        head_at (suc levels) octets ≡ Ok (tag, contents, rest) → form_bit tag ≡ 1 → KidsFault levels contents k fault → n ≡ header_length contents + k →
        ElementFault (suc levels) octets n fault

  pub data KidsFault : ℕ → List ℕ → ℕ → DerFault → Type 0 where
    First : {levels n : ℕ} {octets : List ℕ} {fault : DerFault} → 0 < length octets → ElementFault levels octets n fault → KidsFault levels octets n fault
    Next : {levels k n : ℕ} {octets rest : List ℕ} {element : DerElement} {fault : DerFault} →
        IsDerWithin levels element → octets ≡ encoding element ++ rest → KidsFault levels rest k fault → n ≡ length (encoding element) + k →
        KidsFault levels octets n fault
