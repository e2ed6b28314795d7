-- That the issuer's names have their tag has at most one proof.
use Rattle.std.specs.Prelude.{Option, Some, None}
use Rattle.std.specs.Coded.{Unit-prop, Coded-set, coded_ℕ}
use Rattle.der_core.specs.DerElement.{DerElement, tag_of}
use Rattle.extension_types.specs.AuthorityIssuer.{HasIssuerTag}

pub HasIssuerTag-prop : (issuer : Option DerElement) → IsProp (HasIssuerTag issuer)
HasIssuerTag-prop None = Unit-prop
HasIssuerTag-prop (Some issuer) = Coded-set coded_ℕ (tag_of issuer) 0xA1
