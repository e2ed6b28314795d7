-- Private keys: a container, and beside it the public key of a curve, which the container may leave
-- out.
use Rattle.std.specs.Prelude.{◌∷◌}
use Rattle.std.specs.Option.{option_map}
use Rattle.der_core.specs.DerElement.{DerElement}
use Rattle.der_core.specs.Elements.{sequence, optional_leaf}
use Rattle.asn1_types.specs.Values.{bit_string_contents}
use Rattle.key_core.specs.PrivateKeyInfo.{private_key_info}
use Rattle.key_core.specs.declared.private_key.PrivateKey.{PrivateKey}

-- all that is stored of a key: its container, then the BIT STRING of the curve public key, if any
abbrev pub kept_key : PrivateKey → DerElement
kept_key key =
    sequence
    (private_key_info key.info ∷ optional_leaf 0x03 (option_map bit_string_contents key.public_key))
