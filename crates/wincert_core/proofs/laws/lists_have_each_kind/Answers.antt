use Rattle.std.proofs.Common.{refl, lit<}
use Rattle.std.specs.Prelude.{Contains}
use Rattle.wincert_core.specs.declared.kinds.RevisionType.{RevisionType}
use Rattle.wincert_core.specs.declared.kinds.RevisionType.TheVariants.{WinCertificateRevision10, WinCertificateRevision20}
use Rattle.wincert_core.specs.declared.kinds.CertificateType.{CertificateType}
use Rattle.wincert_core.specs.declared.kinds.CertificateType.TheVariants.{WinCertTypeX509, WinCertTypePkcsSignedData}
use Rattle.wincert_core.specs.declared.kinds.CertificateType.TheVariants.{WinCertTypeReserved1, WinCertTypePkcs1Sign}
use Rattle.wincert_core.specs.declared.kinds.TheConstants.CertificateType as types
use Rattle.wincert_core.specs.declared.kinds.TheConstants.RevisionType as revisions
use Rattle.wincert_core.proofs.laws.lists_have_each_kind.Goals as goal

has_revision : (revision : RevisionType) → Contains revisions.ALL revision
has_revision WinCertificateRevision10 = (0, lit< tt, refl)
has_revision WinCertificateRevision20 = (1, lit< tt, refl)

has_type : (certificate_type : CertificateType) → Contains types.ALL certificate_type
has_type WinCertTypeX509 = (0, lit< tt, refl)
has_type WinCertTypePkcsSignedData = (1, lit< tt, refl)
has_type WinCertTypeReserved1 = (2, lit< tt, refl)
has_type WinCertTypePkcs1Sign = (3, lit< tt, refl)

pub returns-clause-each_revision : goal.returns-clause-each_revision
returns-clause-each_revision c = has_revision

pub returns-clause-each_type : goal.returns-clause-each_type
returns-clause-each_type c = has_type
