-- A WIN_CERTIFICATE and its octets: the length, the revision and the type of a certificate, then
-- the certificate (PE Format, "The Attribute Certificate Table").
use Rattle.std.specs.Prelude.{◌≡◌, ℕ, ◌+◌, ◌-◌, ◌<◌, ◌^◌, List, ◌∷◌, ◌++◌, length, replicate, slice_range}
use Rattle.std.specs.Int.{w16, w32, to_le_bytes, from_le_bytes, next_multiple_of}
use Rattle.wincert_core.specs.declared.kinds.RevisionType.{RevisionType}
use Rattle.wincert_core.specs.declared.kinds.CertificateType.{CertificateType}
use Rattle.wincert_core.specs.Kinds.{revision_number, type_number}

-- the value of a WIN_CERTIFICATE
pub record WinCert : Type 0 where
  pub revision : RevisionType
  pub certificate_type : CertificateType
  pub certificate : List ℕ

-- dwLength counts the header's eight octets and the certificate's.
abbrev pub stated_length : List ℕ → ℕ
stated_length certificate = length certificate + 8

-- The length fits 32 bits.
abbrev pub FitsHeader : List ℕ → Type 0
FitsHeader certificate = stated_length certificate < 2 ^ 32

-- dwLength, wRevision and wCertificateType, each in little-endian order
abbrev pub header : ℕ → ℕ → ℕ → List ℕ
header dw_length w_revision w_certificate_type =
    to_le_bytes w32 dw_length ++ to_le_bytes w16 w_revision ++ to_le_bytes w16 w_certificate_type

-- the header, and bCertificate
abbrev pub spelling : WinCert → List ℕ
spelling w =
    header (stated_length w.certificate) (revision_number w.revision)
    (type_number w.certificate_type)
    ++ w.certificate

-- The octets begin with the encoding of a WIN_CERTIFICATE; later ones aren't part of it.
pub record BeginsWith (octets : List ℕ) (w : WinCert) : Type 0 where
  pub later : List ℕ
  pub fits : FitsHeader w.certificate
  pub spelled : octets ≡ spelling w ++ later

-- The fields of the header in octets: dwLength
abbrev pub length_field : List ℕ → ℕ
length_field octets = from_le_bytes w32 (slice_range octets 0 4)

-- wRevision
abbrev pub revision_field : List ℕ → ℕ
revision_field octets = from_le_bytes w16 (slice_range octets 4 6)

-- wCertificateType
abbrev pub type_field : List ℕ → ℕ
type_field octets = from_le_bytes w16 (slice_range octets 6 8)

-- A table entry is padded with zeros to a multiple of eight octets.
abbrev pub padded : List ℕ → List ℕ
padded certificate =
    certificate ++ replicate (next_multiple_of (length certificate) 8 - length certificate) 0

-- the same with the padding as part of the certificate
abbrev pub with_padding : WinCert → WinCert
with_padding w = record w { certificate = padded w.certificate }

-- all that is stored, as one list that determines the value
abbrev pub kept : WinCert → List ℕ
kept w = revision_number w.revision ∷ type_number w.certificate_type ∷ w.certificate
