-- The name of the CA of certificates, one after another.
use Rattle.std.specs.Prelude.{◌≡◌, ◌⊎◌, ℕ, List, [], ◌∷◌}
use Rattle.der_core.specs.DerElement.{DerElement}
use Rattle.x509_types.specs.CertificateElements.{CertificateElements}
use Rattle.authenticode_core.specs.AuthorityName.{HasAuthorityName, IsNoAuthority}
use Rattle.authenticode_core.specs.Indices.{StandsAt}

-- the name after a certificate: its own, or that before it
abbrev pub IsNextName : DerElement → CertificateElements → DerElement → Type 0
IsNextName name c next = HasAuthorityName c next ⊎ (IsNoAuthority c × (next ≡ name))

-- the name after the certificates at these indexes
abbrev pub IsNameAfter : List CertificateElements → DerElement → List ℕ → DerElement → Type 0
IsNameAfter bag name [] after = after ≡ name
IsNameAfter bag name (place ∷ places) after =
    (c : CertificateElements) × (next : DerElement) × StandsAt bag place c × IsNextName name c next
    × IsNameAfter bag next places after
