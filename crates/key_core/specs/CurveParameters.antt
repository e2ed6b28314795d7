-- The parameters that a private key is stored with.
use Rattle.std.specs.Prelude.{⊤, Option, Some, None}
use Rattle.der_core.specs.DerElement.{DerElement}
use Rattle.key_types.specs.KeyKind.{IsOid}
use Rattle.key_core.specs.declared.private_key_value.PrivateKeyValue.{PrivateKeyValue}
use Rattle.key_core.specs.declared.private_key_value.PrivateKeyValue.TheVariants as values

-- The parameters of an EC key are an OID, that of its curve (RFC 5480 2.1.1). Those of others are
-- arbitrary.
abbrev pub HasCurve : PrivateKeyValue → Option DerElement → Type 0
HasCurve (values.Rsa key) parameters = ⊤
HasCurve (values.Ec key) None = ⊥
HasCurve (values.Ec key) (Some parameters) = IsOid parameters
HasCurve (values.Ed octets) parameters = ⊤
