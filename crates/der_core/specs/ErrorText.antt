-- The texts of faults and errors.
use Rattle.std.specs.Prelude.{List, ℕ, ◌++◌, codes}
use Rattle.std.specs.Fmt.{decimal}
use Rattle.der_core.specs.declared.error.DerError.{DerError}
use Rattle.der_core.specs.declared.error.DerError.TheVariants as errors
use Rattle.der_core.specs.declared.fault.DerFault.{DerFault}
use Rattle.der_core.specs.declared.fault.DerFault.TheVariants as faults
use Rattle.der_core.specs.declared.fault.Malformed.{Malformed}

-- the text of each fault
abbrev pub fault_text : DerFault → List ℕ
fault_text faults.Truncated = codes "the octets end within the element"
fault_text faults.ReservedTag = codes "the reserved tag 0"
fault_text faults.HighTag = codes "a tag number above 30"
fault_text faults.Indefinite = codes "an indefinite length"
fault_text faults.NotShortest = codes "a length that is not in its shortest form"
fault_text faults.WideLength = codes "a length of more than four octets"
fault_text faults.TooDeep = codes "an element nested deeper than 64 levels"
fault_text faults.Overrun = codes "an element that runs past the end of the one around it"
fault_text faults.Trailing = codes "octets after the element"

-- the fault and its offset
abbrev pub malformed_text : Malformed → List ℕ
malformed_text malformed = fault_text malformed.fault ++ codes " at octet " ++ decimal malformed.at

-- why octets aren't read, or a tree isn't written
abbrev pub der_error_text : DerError → List ℕ
der_error_text (errors.Malformed malformed) = codes "malformed DER: " ++ malformed_text malformed
der_error_text errors.Shape =
    codes "the element has another structure than the one that is read"
der_error_text errors.TooDeep =
    codes "the tree is nested deeper than 64 levels and cannot be written"
der_error_text errors.TooLong =
    codes "some contents of the tree pass 4294967295 octets and cannot be written"
der_error_text errors.Memory = codes "out of memory"
