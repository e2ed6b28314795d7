-- The revisions and certificate types by number (PE Format, "The Attribute Certificate Table"; the
-- type of a PKCS #1 signature is that of WIN_CERTIFICATE in wintrust.h).
use Rattle.std.specs.Prelude.{ℕ, ◌==◌, [], ◌∷◌, Option}
use Rattle.std.specs.List.{find}
use Rattle.wincert_core.specs.declared.kinds.RevisionType.{RevisionType}
use Rattle.wincert_core.specs.declared.kinds.RevisionType.TheVariants.{WinCertificateRevision10, WinCertificateRevision20}
use Rattle.wincert_core.specs.declared.kinds.CertificateType.{CertificateType}
use Rattle.wincert_core.specs.declared.kinds.CertificateType.TheVariants.{WinCertTypeX509, WinCertTypePkcsSignedData}
use Rattle.wincert_core.specs.declared.kinds.CertificateType.TheVariants.{WinCertTypeReserved1, WinCertTypePkcs1Sign}

-- wRevision
abbrev pub revision_number : RevisionType → ℕ
revision_number WinCertificateRevision10 = 0x0100
revision_number WinCertificateRevision20 = 0x0200

-- wCertificateType
abbrev pub type_number : CertificateType → ℕ
type_number WinCertTypeX509 = 1
type_number WinCertTypePkcsSignedData = 2
type_number WinCertTypeReserved1 = 3
type_number WinCertTypePkcs1Sign = 9

-- the revision with a number, if any
abbrev pub revision_numbered : ℕ → Option RevisionType
revision_numbered n =
    find (λ revision. revision_number revision == n)
    (WinCertificateRevision10 ∷ WinCertificateRevision20 ∷ [])

-- the type with a number, if any
abbrev pub type_numbered : ℕ → Option CertificateType
type_numbered n =
    find (λ certificate_type. type_number certificate_type == n)
    (WinCertTypeX509 ∷ WinCertTypePkcsSignedData ∷ WinCertTypeReserved1 ∷ WinCertTypePkcs1Sign ∷ [])
