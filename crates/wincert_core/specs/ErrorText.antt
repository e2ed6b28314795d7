-- The texts of errors.
use Rattle.std.specs.Prelude.{ℕ, ◌/◌, ◌%◌, false, List, [], ◌∷◌, ◌++◌, codes}
use Rattle.std.specs.Fmt.{decimal, digit_glyph}
use Rattle.wincert_core.specs.declared.error.WinCertificateError.{WinCertificateError}
use Rattle.wincert_core.specs.declared.error.WinCertificateError.TheVariants.{WrongRevisionValue, WrongCertificateType, WrongLength}
use Rattle.wincert_core.specs.declared.error.WinCertificateError.TheVariants.{CertificateDataIsEmpty, Io, TooLong, Memory}

-- an octet in two hexadecimal digits
abbrev pub octet_digits : ℕ → List ℕ
octet_digits octet = digit_glyph false (octet / 16) ∷ digit_glyph false (octet % 16) ∷ []

-- why octets are no WIN_CERTIFICATE, or a certificate can't be encoded
abbrev pub error_text : WinCertificateError → List ℕ
error_text (WrongRevisionValue got) =
    codes "unknown revision 0x" ++ octet_digits (got / 256) ++ octet_digits (got % 256)
    ++ codes " of a WIN_CERTIFICATE (known are 0x0100 and 0x0200)"
error_text (WrongCertificateType got) =
    codes "unknown type " ++ decimal got ++ codes " of a WIN_CERTIFICATE (known are 1, 2, 3 and 9)"
error_text (WrongLength minimum got) =
    codes "a WIN_CERTIFICATE has at least " ++ decimal minimum
    ++ codes " octets, and this one has " ++ decimal got
error_text CertificateDataIsEmpty =
    codes "the WIN_CERTIFICATE states the length 0, so it holds no certificate"
error_text (Io stated got) =
    codes "the WIN_CERTIFICATE states a length of " ++ decimal stated
    ++ codes " octets, and only " ++ decimal got ++ codes " are there"
error_text TooLong =
    codes "the certificate is too long: header, certificate and padding pass 4294967295 octets"
error_text Memory = codes "out of memory"
