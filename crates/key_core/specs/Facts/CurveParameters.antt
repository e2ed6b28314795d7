-- `HasCurve` is a proposition: it has at most one proof.
use Rattle.std.proofs.Common.{Option, Some, None}
use Rattle.std.specs.Coded.{Unit-prop}
use Rattle.der_core.specs.DerElement.{DerElement}
use Rattle.key_core.specs.CurveParameters.{HasCurve}
use Rattle.key_core.specs.declared.private_key_value.PrivateKeyValue.{PrivateKeyValue}
use Rattle.key_core.specs.declared.private_key_value.PrivateKeyValue.TheVariants as values
use Rattle.key_types.specs.Facts.Kinds.{IsOid-prop}

pub HasCurve-prop : (key : PrivateKeyValue) (parameters : Option DerElement) → IsProp (HasCurve key parameters)
HasCurve-prop (values.Rsa key) parameters = Unit-prop
HasCurve-prop (values.Ec key) None = λ a b. absurd a
HasCurve-prop (values.Ec key) (Some parameters) = IsOid-prop parameters
HasCurve-prop (values.Ed octets) parameters = Unit-prop
