-- Validity ::= SEQUENCE { notBefore Time, notAfter Time } (RFC 5280 4.1.2.5)
use Rattle.std.specs.Prelude.{[], ◌∷◌}
use Rattle.der_core.specs.DerElement.{DerElement}
use Rattle.der_core.specs.Elements.{sequence}
use Rattle.asn1_types.specs.Elements.{time}
use Rattle.x509_types.specs.declared.certificate.validity.Validity.{Validity}

-- the element of a validity, its times in this order
abbrev pub validity : Validity → DerElement
validity value = sequence (time value.not_before ∷ time value.not_after ∷ [])
