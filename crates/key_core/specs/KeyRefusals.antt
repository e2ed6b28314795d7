-- Why a key isn't read or written, by why its element isn't.
use Rattle.std.specs.Prelude.{◌≡◌, ◌≢◌, ℕ, List, Result, Err}
use Rattle.der_core.specs.DerElement.{DerElement}
use Rattle.der_core.specs.Encoding.{encoding, IsDer}
use Rattle.der_core.specs.Reading.{IsExactFault}
use Rattle.der_core.specs.Writing.{RefusesToWrite}
use Rattle.der_core.specs.declared.error.DerError.{DerError}
use Rattle.der_core.specs.declared.error.DerError.TheVariants as der
use Rattle.der_core.specs.declared.fault.DerFault.{DerFault}
use Rattle.der_core.specs.Refusals.{Wraps}
use Rattle.key_core.specs.declared.element.Element.{Element}
use Rattle.key_core.specs.declared.error.KeyError.{KeyError}
use Rattle.key_core.specs.declared.error.KeyError.TheVariants as errors

-- out of memory is reported as such, any other cause with the structure
abbrev pub unread : Element → DerError → KeyError
unread element der.Memory = errors.Memory
unread element source = errors.Asn1Deserialization element source

-- the same for an element that can't be written
abbrev pub unwritten : Element → DerError → KeyError
unwritten element der.Memory = errors.Memory
unwritten element source = errors.Asn1Serialization element source

-- The error names this structure, and its cause refuses to read it.
abbrev pub IsUnreadKey : Element → (DerError → Type 0) → KeyError → Type 0
IsUnreadKey element = Wraps (unread element)

-- Octets with a fault are refused with it, even when memory runs out.
abbrev pub RefusesFaults : {A : Type 0} → Element → List ℕ → Result A KeyError → Type 0
RefusesFaults structure octets result =
    (at : ℕ) (fault : DerFault) → IsExactFault octets at fault
    → result ≡ Err (errors.Asn1Deserialization structure
    (der.Malformed (record { at = at; fault = fault })))

-- An element that encodes no value is refused as such, even when memory runs out.
abbrev pub RefusesOthers : {A X : Type 0} → (DerElement → X → Type 0) → Element → List ℕ
    → Result A KeyError → Type 0
RefusesOthers {A} {X} spells structure octets result =
    (element : DerElement) → IsDer element → octets ≡ encoding element
    → ((value : X) → spells element value → ⊥)
    → result ≡ Err (errors.Asn1Deserialization structure der.Shape)

-- The error names this structure, and its cause refuses to write it.
abbrev pub IsUnwrittenKey : Element → (DerError → Type 0) → KeyError → Type 0
IsUnwrittenKey element = Wraps (unwritten element)

-- The element can't be written, and the cause isn't out of memory.
pub record CantBeWritten (element : DerElement) (source : DerError) : Type 0 where
  pub cause : RefusesToWrite element source
  pub not_memory : source ≢ der.Memory
