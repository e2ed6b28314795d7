-- The RSAPrivateKey of a private key, on its own (RFC 8017 A.1.2).
use Rattle.std.specs.Prelude.{◌≡◌, ℕ, List, [], ◌∷◌, Some, None}
use Rattle.der_core.specs.DerElement.{DerElement}
use Rattle.der_core.specs.Elements.{null}
use Rattle.der_core.specs.Encoding.{encoding, IsDer}
use Rattle.der_core.specs.BorrowedOption.{kept_option}
use Rattle.der_core.specs.Refusals.{RefusesInner}
use Rattle.der_core.specs.Structure.{IsWithin}
use Rattle.asn1_types.specs.Values.{identifier_contents}
use Rattle.asn1_types.specs.declared.oids.TheConstants.{RSA_ENCRYPTION}
use Rattle.key_types.specs.RsaPrivateKey.{rsa_private_key}
use Rattle.key_types.specs.declared.rsa_private_key.RsaPrivateKey.{RsaPrivateKey}
use Rattle.key_types.specs.AlgorithmIdentifier.{oid_of, parameters_of}
use Rattle.key_core.specs.KeyRefusals.{IsUnwrittenKey}
use Rattle.key_core.specs.declared.element.Element.TheVariants as elements
use Rattle.key_core.specs.declared.error.KeyContext.TheVariants as contexts
use Rattle.key_core.specs.declared.error.KeyError.{KeyError}
use Rattle.key_core.specs.declared.error.KeyError.TheVariants as errors
use Rattle.key_core.specs.declared.private_key_info.PrivateKeyInfo.{PrivateKeyInfo}
use Rattle.key_core.specs.declared.private_key_value.PrivateKeyValue.{PrivateKeyValue}
use Rattle.key_core.specs.declared.private_key_value.PrivateKeyValue.TheVariants as values
use Rattle.key_core.specs.declared.private_key_version.PrivateKeyVersion.TheVariants as versions
use Rattle.key_core.specs.declared.private_key.PrivateKey.{PrivateKey}

-- The container of an RSA key (RFC 3279 2.3.1): the parameters are NULL, and it has neither
-- attributes nor a public key.
pub record IsRsaContainer (key : RsaPrivateKey) (info : PrivateKeyInfo) : Type 0 where
  pub version : info.version ≡ versions.V1
  pub identifier : identifier_contents (oid_of info.private_key_algorithm) ≡ RSA_ENCRYPTION.now
  pub parameters : kept_option (parameters_of info.private_key_algorithm) ≡ Some null
  pub is : info.private_key ≡ values.Rsa key
  pub attributes : info.attributes ≡ None
  pub public_key : info.public_key ≡ None

-- the element is the RSAPrivateKey
abbrev pub IsRsaPrivateKey : DerElement → RsaPrivateKey → Type 0
IsRsaPrivateKey element key = element ≡ rsa_private_key key

-- An RSA private key by the encoding of its RSAPrivateKey.
pub record IsPrivatePkcs1 (octets : List ℕ) (key : PrivateKey) : Type 0 where
  pub rsa : RsaPrivateKey
  pub within : IsWithin IsRsaPrivateKey octets rsa
  pub container : IsRsaContainer rsa key.info
  pub beside : key.public_key ≡ None

-- the octets encode the RSAPrivateKey of the key, which is an RSA key
abbrev pub IsPkcs1OfPrivate : PrivateKeyValue → List ℕ → Type 0
IsPkcs1OfPrivate (values.Rsa key) octets =
    (octets ≡ encoding (rsa_private_key key)) × IsDer (rsa_private_key key)
IsPkcs1OfPrivate (values.Ec key) octets = ⊥
IsPkcs1OfPrivate (values.Ed secret) octets = ⊥

-- why a private key has no such octets: it can't be written, or is of another kind
abbrev pub RefusesPrivatePkcs1 : PrivateKeyValue → KeyError → Type 0
RefusesPrivatePkcs1 (values.Rsa key) e =
    IsUnwrittenKey elements.RsaPrivateKey (RefusesInner (rsa_private_key key ∷ [])) e
RefusesPrivatePkcs1 (values.Ec key) e = e ≡ errors.Rsa contexts.NotRsa
RefusesPrivatePkcs1 (values.Ed secret) e = e ≡ errors.Rsa contexts.NotRsa
