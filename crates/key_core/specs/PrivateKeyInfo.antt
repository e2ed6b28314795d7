-- Private keys with their algorithms (RFC 5958 2).
use Rattle.std.specs.Prelude.{◌≡◌, List, [], ◌∷◌}
use Rattle.std.specs.Option.{option_map}
use Rattle.der_core.specs.DerElement.{DerElement}
use Rattle.der_core.specs.Encoding.{encoding}
use Rattle.der_core.specs.BorrowedOption.{kept_option}
use Rattle.der_core.specs.Borrowed.{AreDer}
use Rattle.asn1_types.specs.Values.{bit_string_contents}
use Rattle.key_types.specs.AlgorithmIdentifier.{algorithm_identifier}
use Rattle.key_core.specs.PrivateKeyVersion.{key_version}
use Rattle.key_core.specs.PrivateKeyValue.{private_key}
use Rattle.key_core.specs.PrivateKeyFields.{private_key_info_of}
use Rattle.key_core.specs.declared.private_key_info.PrivateKeyInfo.{PrivateKeyInfo}

-- The OCTET STRING contains the encoding of the private key, and the public key is the contents
-- octets of a BIT STRING.
abbrev pub private_key_info : PrivateKeyInfo → DerElement
private_key_info info =
    private_key_info_of
    (key_version info.version)
    (algorithm_identifier info.private_key_algorithm)
    (encoding (private_key info.private_key))
    (kept_option info.attributes)
    (option_map bit_string_contents info.public_key)

-- what the OCTET STRING contains
abbrev pub inner_private_key : PrivateKeyInfo → List DerElement
inner_private_key info = private_key info.private_key ∷ []

-- the element is the PrivateKeyInfo, and its inner element is within limits
abbrev pub IsPrivateKeyInfo : DerElement → PrivateKeyInfo → Type 0
IsPrivateKeyInfo element info = (element ≡ private_key_info info) × AreDer (inner_private_key info)
