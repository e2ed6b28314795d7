-- The rules for the CA of the signer, in their order: it is on the trust list of the policy, or
-- excluded.
use Rattle.std.specs.Prelude.{◌≡◌, ◌⊎◌, ℕ, List, [], ◌∷◌, Some, IsTrue}
use Rattle.std.specs.Option.{option_copied}
use Rattle.cms_types.specs.SignedDataElements.{SignedDataElements}
use Rattle.der_core.specs.DerElement.{DerElement}
use Rattle.der_core.specs.Rules.{Rule, IsFirstBroken}
use Rattle.name_types.specs.Name.{name}
use Rattle.names_core.specs.Names.{sets_of}
use Rattle.names_core.specs.declared.name.DirectoryName.{DirectoryName}
use Rattle.cms_content.specs.First.{HoldsOfSome}
use Rattle.x509_types.specs.CertificateElements.{CertificateElements}
use Rattle.authenticode_core.specs.AuthorityName.{IsNameAt}
use Rattle.authenticode_core.specs.IssuerWalk.{IsIssuerWalk}
use Rattle.authenticode_core.specs.SameElements.{IsSameElement}
use Rattle.authenticode_core.specs.SignerRules.{HasKeyName, HasUnknownName, LacksSigner}
use Rattle.authenticode_core.specs.SigningRules.{IsBagOf, IsSignerCertificate}
use Rattle.authenticode_core.specs.TrustList.{IsOnList, name_rules}
use Rattle.authenticode_core.specs.declared.accepted.Accepted.{Accepted}
use Rattle.authenticode_core.specs.declared.ctl.CertificateTrustList.{CertificateTrustList}
use Rattle.authenticode_core.specs.declared.error.AuthenticodeError.{AuthenticodeError}
use Rattle.authenticode_core.specs.declared.policy.Policy.{Policy}

-- The name of the CA of the signer: that of the certificates of its issuer walk.
pub record IsSignerCa (f : SignedDataElements) (ca : DerElement) : Type 0 where
  pub bag : List CertificateElements
  pub is_bag : IsBagOf f bag
  pub place : ℕ
  pub certificate : CertificateElements
  pub is_signer : IsSignerCertificate f bag place certificate
  pub walk : List ℕ
  pub is_walk : IsIssuerWalk bag certificate walk
  pub named : IsNameAt bag walk ca

-- the name has the same encoding
abbrev pub IsNamed : DerElement → DirectoryName → Type 0
IsNamed element one = IsSameElement (name (sets_of one)) element

-- one of the names has this encoding
abbrev pub HasName : List DirectoryName → DerElement → Type 0
HasName names element = HoldsOfSome (IsNamed element) names

-- the name is excluded: it needn't be on the list
abbrev pub IsExcluded : Policy → DerElement → Type 0
IsExcluded policy ca = IsTrue policy.exclude × HasName policy.excluded ca

-- the CA of the signer is on the list, or excluded
abbrev pub IsTrustedCa : Policy → SignedDataElements → CertificateTrustList → Type 0
IsTrustedCa policy f list =
    (ca : DerElement) × IsSignerCa f ca × (IsOnList list policy.now ca ⊎ IsExcluded policy ca)

-- if the policy has a list, the CA of the signer is on it, or excluded
abbrev pub IsTrustedCaOf : Policy → SignedDataElements → Type 0
IsTrustedCaOf policy f =
    (list : CertificateTrustList) → option_copied policy.list ≡ Some list
    → IsTrustedCa policy f list

-- The reported index is that of the certificate of the first signer, and its CA is on the list of the
-- policy, if there is one, or excluded.
pub record IsSignerListed (policy : Policy) (f : SignedDataElements) (a : Accepted) : Type 0 where
  pub bag : List CertificateElements
  pub is_bag : IsBagOf f bag
  pub place : ℕ
  pub certificate : CertificateElements
  pub is_signer : IsSignerCertificate f bag place certificate
  pub place_is : a.signer ≡ Some place
  pub listed : IsTrustedCaOf policy f

-- ---- rules, by what breaks them

-- the CA of the signer is neither on the list nor excluded
abbrev pub IsOffList : Policy → SignedDataElements → CertificateTrustList → Rule AuthenticodeError
IsOffList policy f list e =
    (ca : DerElement) × IsSignerCa f ca × (IsExcluded policy ca → ⊥)
    × IsFirstBroken (name_rules list policy.now ca) e

-- the policy has a list, and the CA of the signer is neither on it nor excluded
abbrev pub HasUntrustedCa : Policy → SignedDataElements → Rule AuthenticodeError
HasUntrustedCa policy f e =
    (list : CertificateTrustList) × (option_copied policy.list ≡ Some list)
    × IsOffList policy f list e

-- The rules for the CA of the signer, in their order.
abbrev pub ca_rules : Policy → SignedDataElements → List (Rule AuthenticodeError)
ca_rules policy f =
    LacksSigner f ∷ HasKeyName f ∷ HasUnknownName f ∷ HasUntrustedCa policy f ∷ []
