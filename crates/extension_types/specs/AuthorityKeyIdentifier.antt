-- AuthorityKeyIdentifier ::= SEQUENCE { keyIdentifier [0] KeyIdentifier OPTIONAL,
-- authorityCertIssuer [1] GeneralNames OPTIONAL, authorityCertSerialNumber [2]
-- CertificateSerialNumber OPTIONAL } (RFC 5280 4.2.1.1). The tags are implicit; the contents of the
-- last two are raw.
use Rattle.std.specs.Prelude.{◌≡◌, ℕ, List, ◌++◌, Option, Some, None, option_to_list}
use Rattle.der_core.specs.DerElement.{DerElement}
use Rattle.der_core.specs.Elements.{sequence, optional_leaf}
use Rattle.der_core.specs.BorrowedOption.{kept_option}
use Rattle.extension_types.specs.AuthorityIssuer.{HasIssuerTag}
use Rattle.extension_types.specs.declared.authority_key_identifier.AuthorityKeyIdentifier.{AuthorityKeyIdentifier}

-- by its fields
abbrev pub authority_key_of : Option (List ℕ) → Option DerElement → Option (List ℕ) → DerElement
authority_key_of key_identifier issuer serial_number =
    sequence (optional_leaf 0x80 key_identifier
    ++ (option_to_list issuer ++ optional_leaf 0x82 serial_number))

-- The element has these fields, the issuer's names as any element with their tag.
pub record IsAuthorityKeyOf (element : DerElement) (key_identifier : Option (List ℕ))
    (issuer : Option DerElement) (serial_number : Option (List ℕ)) : Type 0 where
  pub tagged : HasIssuerTag issuer
  pub is : element ≡ authority_key_of key_identifier issuer serial_number

-- the element of an authority key identifier
abbrev pub authority_key_identifier : AuthorityKeyIdentifier → DerElement
authority_key_identifier a =
    authority_key_of a.key_identifier (kept_option a.issuer) a.serial_number

-- the one with this keyIdentifier alone
abbrev pub key_of_identifier : List ℕ → AuthorityKeyIdentifier
key_of_identifier key =
    record { key_identifier = Some key; issuer = None; serial_number = None; tagged = tt }

-- the keyIdentifier, if there is one
abbrev pub key_identifier_of : AuthorityKeyIdentifier → Option (List ℕ)
key_identifier_of a = a.key_identifier
