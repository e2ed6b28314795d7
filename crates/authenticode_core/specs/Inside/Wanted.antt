-- Certificates searched for in a bag.
use Rattle.std.specs.Prelude.{◌≡◌, ℕ, List}
use Rattle.der_core.specs.Encoding.{encoding}
use Rattle.x509_types.specs.CertificateElements.{CertificateElements}
use Rattle.x509_types.specs.Purposes.{NamesPurpose}
use Rattle.authenticode_core.specs.declared.bag.wanted.Wanted.{Wanted}
use Rattle.authenticode_core.specs.declared.bag.wanted.Wanted.TheVariants.{Subject, IssuerAndSerial, Purpose}

-- the certificate has this issuer, given as octets, and this serial number, given as contents
-- octets
abbrev pub IsNamedBy : List ℕ → List ℕ → CertificateElements → Type 0
IsNamedBy issuer serial_number c =
    (encoding c.tbs.issuer ≡ issuer) × (c.tbs.serial_number ≡ serial_number)

-- the certificate has the subject, the issuer and serial number, or the extended key usage
abbrev pub IsWanted : Wanted → CertificateElements → Type 0
IsWanted (Subject subject) c = encoding c.tbs.subject ≡ subject.now
IsWanted (IssuerAndSerial issuer serial_number) c = IsNamedBy issuer.now serial_number.now c
IsWanted (Purpose oid) c = NamesPurpose c oid.now
