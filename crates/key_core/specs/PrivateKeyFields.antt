-- OneAsymmetricKey ::= SEQUENCE { version Version, privateKeyAlgorithm AlgorithmIdentifier,
-- privateKey OCTET STRING, attributes [0] Attributes OPTIONAL, .., publicKey [1] BIT STRING
-- OPTIONAL } (RFC 5958 2), whose tags are implicit. RFC 5208 5 calls it PrivateKeyInfo and has no
-- public key.
use Rattle.std.specs.Prelude.{◌≡◌, ⊤, ℕ, List, ◌∷◌, ◌++◌, Option, Some, None, option_to_list}
use Rattle.der_core.specs.DerElement.{DerElement, tag_of}
use Rattle.der_core.specs.Elements.{sequence, octet_string, optional_leaf}

-- attributes, if any, are constructed and have the tag [0]
abbrev pub HaveTag : Option DerElement → Type 0
HaveTag None = ⊤
HaveTag (Some attributes) = tag_of attributes ≡ 0xA0

-- by its fields
abbrev pub private_key_info_of : (version algorithm : DerElement) (private_key : List ℕ)
    (attributes : Option DerElement) (public_key : Option (List ℕ))
    → DerElement
private_key_info_of version algorithm private_key attributes public_key =
    sequence (version ∷ algorithm ∷ octet_string private_key ∷
    (option_to_list attributes ++ optional_leaf 0x81 public_key))
