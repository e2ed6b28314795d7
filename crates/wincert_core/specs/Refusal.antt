-- Which octets contain no WIN_CERTIFICATE, and which WIN_CERTIFICATE has no encoding.
use Rattle.std.specs.Prelude.{◌≡◌, ◌⊎◌, ℕ, ◌^◌, nat_lt, ◌==◌, if◌then◌else◌, List, length}
use Rattle.std.specs.Prelude.{slice_range, Option, Some, None, Result, Ok, Err, is_none, MatchResult}
use Rattle.wincert_core.specs.declared.error.WinCertificateError.{WinCertificateError}
use Rattle.wincert_core.specs.declared.error.WinCertificateError.TheVariants.{WrongRevisionValue, WrongCertificateType, WrongLength}
use Rattle.wincert_core.specs.declared.error.WinCertificateError.TheVariants.{CertificateDataIsEmpty, Io, TooLong, Memory}
use Rattle.wincert_core.specs.declared.kinds.RevisionType.TheVariants.{WinCertificateRevision20}
use Rattle.wincert_core.specs.declared.kinds.CertificateType.{CertificateType}
use Rattle.wincert_core.specs.Kinds.{revision_numbered, type_numbered}
use Rattle.wincert_core.specs.WinCert.{WinCert, stated_length, spelling, with_padding, length_field, revision_field, type_field}

-- The first of these refusals that applies, if any.
unfoldable pub first_refusal : List ℕ → Option WinCertificateError
first_refusal octets =
    if nat_lt (length octets) 8
    then Some (WrongLength 8 (length octets))
    else (if length_field octets == 0
    then Some CertificateDataIsEmpty
    else (if is_none (revision_numbered (revision_field octets))
    then Some (WrongRevisionValue (revision_field octets))
    else (if is_none (type_numbered (type_field octets))
    then Some (WrongCertificateType (type_field octets))
    else (if nat_lt (length_field octets) 8
    then Some (WrongLength 8 (length_field octets))
    else (if nat_lt (length octets) (length_field octets)
    then Some (Io (length_field octets) (length octets))
    else None)))))

-- a value, unless it is refused
abbrev pub unless_refused : {A : Type 0} → Option WinCertificateError → A
    → Result A WinCertificateError
unless_refused None value = Ok value
unless_refused (Some refusal) value = Err refusal

-- the certificate that the header delimits, with its padding, or why there is none
abbrev pub contents_in : List ℕ → Result (List ℕ) WinCertificateError
contents_in octets =
    unless_refused (first_refusal octets) (slice_range octets 8 (length_field octets))

-- A WIN_CERTIFICATE with the current revision, or why there is none.
abbrev pub current : List ℕ → CertificateType → Result WinCert WinCertificateError
current certificate certificate_type =
    if nat_lt (stated_length certificate) (2 ^ 32)
    then Ok (record {
      revision = WinCertificateRevision20;
      certificate_type = certificate_type;
      certificate = certificate;
    })
    else Err TooLong

-- The encoding of a WIN_CERTIFICATE in a file, padding included, or why there is none.
abbrev pub encoded : WinCert → Result (List ℕ) WinCertificateError
encoded w =
    if nat_lt (stated_length (with_padding w).certificate) (2 ^ 32)
    then Ok (spelling (with_padding w))
    else Err TooLong

-- The result, seen by `view`, is the expected one, unless memory ran out.
abbrev pub Gives : {A B : Type 0}
    → (A → B) → Result A WinCertificateError → Result B WinCertificateError → Type 0
Gives view result asked =
    MatchResult result (λ x. asked ≡ Ok (view x)) (λ e. (asked ≡ Err e) ⊎ (e ≡ Memory))
