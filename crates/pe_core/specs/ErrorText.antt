-- The texts of errors.
use Rattle.std.specs.Prelude.{ℕ, ◌/◌, ◌%◌, false, List, [], ◌∷◌, ◌++◌, codes}
use Rattle.std.specs.Fmt.{decimal, digit_glyph}
use Rattle.pe_core.specs.declared.error.PeError.{PeError}
use Rattle.pe_core.specs.declared.error.PeError.TheVariants.{NotMz, NotPe, WrongMagic, NoDirectory, NoTable, TableOutside}

-- an octet in two hexadecimal digits
abbrev pub octet_digits : ℕ → List ℕ
octet_digits octet = digit_glyph false (octet / 16) ∷ digit_glyph false (octet % 16) ∷ []

-- why a file is no image with a certificate table at its end
abbrev pub error_text : PeError → List ℕ
error_text NotMz = codes "the file has no MS-DOS header, so it is no program"
error_text NotPe = codes "the file has no PE signature, so it is no program"
error_text (WrongMagic got) =
    codes "unknown magic number 0x" ++ octet_digits (got / 256) ++ octet_digits (got % 256)
    ++ codes " of an optional header (known are 0x010b and 0x020b)"
error_text NoDirectory = codes "the optional header has no data directory of certificates"
error_text NoTable = codes "the program has no signature"
error_text (TableOutside address size len) =
    codes "the certificate table of " ++ decimal size ++ codes " octets at offset "
    ++ decimal address ++ codes " is not the end of the file of " ++ decimal len
    ++ codes " octets"
