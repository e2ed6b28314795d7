-- The type of a certificate, by the flag of its basic constraints (RFC 5280 3.2, 4.2.1.9).
use Rattle.std.specs.Prelude.{◌≡◌, Bool, true, false}
use Rattle.x509_types.specs.CertificateElements.{CertificateElements}
use Rattle.x509_types.specs.ExtensionParts.{HasCa}
use Rattle.x509_core.specs.declared.cert_type.CertType.{CertType}
use Rattle.x509_core.specs.declared.cert_type.CertType.TheVariants as types

-- the issuer is the subject: the certificate is self-issued (RFC 5280 3.2)
abbrev pub IsSelfIssued : CertificateElements → Type 0
IsSelfIssued f = f.tbs.issuer ≡ f.tbs.subject

-- a CA certificate is a root if it is self-issued
abbrev pub IsAuthorityOf : CertificateElements → CertType → Type 0
IsAuthorityOf f types.Root = IsSelfIssued f
IsAuthorityOf f types.Intermediate = IsSelfIssued f → ⊥
IsAuthorityOf f types.Leaf = ⊥
IsAuthorityOf f types.Unknown = ⊥

-- unknown without the flag
abbrev pub IsOfType : CertificateElements → CertType → Type 0
IsOfType f types.Root = HasCa f true × IsSelfIssued f
IsOfType f types.Intermediate = HasCa f true × (IsSelfIssued f → ⊥)
IsOfType f types.Leaf = HasCa f false
IsOfType f types.Unknown = (flag : Bool) → HasCa f flag → ⊥
