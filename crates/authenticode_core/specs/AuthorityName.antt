-- The name by which a trust list has the CA of certificates: that of the last CA certificate among
-- them (RFC 5280 3.2).
use Rattle.std.specs.Prelude.{◌≡◌, ◌⊎◌, ⊤, ℕ, List, [], ◌∷◌, ◌++◌}
use Rattle.der_core.specs.DerElement.{DerElement}
use Rattle.x509_core.specs.CertType.{IsOfType}
use Rattle.x509_core.specs.declared.cert_type.CertType.TheVariants as types
use Rattle.x509_types.specs.CertificateElements.{CertificateElements}
use Rattle.authenticode_core.specs.Indices.{StandsAt}

-- the name of the CA of a CA certificate: an intermediate's issuer, a root's subject
abbrev pub HasAuthorityName : CertificateElements → DerElement → Type 0
HasAuthorityName c name =
    (IsOfType c types.Intermediate × (name ≡ c.tbs.issuer))
    ⊎ (IsOfType c types.Root × (name ≡ c.tbs.subject))

-- the certificate isn't a CA certificate
abbrev pub IsNoAuthority : CertificateElements → Type 0
IsNoAuthority c = (name : DerElement) → HasAuthorityName c name → ⊥

-- none of the certificates is a CA certificate
abbrev pub NoneIsAuthority : List CertificateElements → Type 0
NoneIsAuthority [] = ⊤
NoneIsAuthority (c ∷ others) = IsNoAuthority c × NoneIsAuthority others

-- The last CA certificate has this name.
pub record IsLastAuthority (certificates : List CertificateElements)
    (name : DerElement) : Type 0 where
  pub before : List CertificateElements
  pub c : CertificateElements
  pub after : List CertificateElements
  pub are : certificates ≡ before ++ c ∷ after
  pub named : HasAuthorityName c name
  pub last : NoneIsAuthority after

-- the name of the last CA certificate after the first certificate, or without one, the issuer of the
-- first
abbrev pub IsAuthorityName : List CertificateElements → DerElement → Type 0
IsAuthorityName [] name = ⊥
IsAuthorityName (first ∷ others) name =
    IsLastAuthority others name ⊎ (NoneIsAuthority others × (name ≡ first.tbs.issuer))

-- the certificates at these indexes of the bag, in order
abbrev pub AreAt : List CertificateElements → List ℕ → List CertificateElements → Type 0
AreAt bag [] certificates = certificates ≡ []
AreAt bag (place ∷ places) certificates =
    (c : CertificateElements) × (others : List CertificateElements) × (certificates ≡ c ∷ others)
    × StandsAt bag place c × AreAt bag places others

-- The name of the CA of the certificates at these indexes.
pub record IsNameAt (bag : List CertificateElements) (places : List ℕ)
    (name : DerElement) : Type 0 where
  pub certificates : List CertificateElements
  pub at : AreAt bag places certificates
  pub is : IsAuthorityName certificates name
