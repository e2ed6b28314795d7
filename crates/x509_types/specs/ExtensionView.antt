-- The kinds of extensions, by OID, and their values, wrapped in an OCTET STRING (RFC 5280 4.1,
-- 4.2.1).
use Rattle.std.specs.Prelude.{◌≡◌, ⊤, ℕ, List, [], ◌∷◌, if◌then◌else◌, bytes_eq}
use Rattle.asn1_types.specs.declared.oids.TheConstants.{CE_SUBJECT_KEY_IDENTIFIER, CE_KEY_USAGE, CE_SUBJECT_ALT_NAME, CE_ISSUER_ALT_NAME}
use Rattle.asn1_types.specs.declared.oids.TheConstants.{CE_BASIC_CONSTRAINTS, CE_AUTHORITY_KEY_IDENTIFIER, CE_EXT_KEY_USAGE}
use Rattle.der_core.specs.Each.{Prints}
use Rattle.der_core.specs.DerElement.{DerElement}
use Rattle.der_core.specs.Elements.{octet_string}
use Rattle.der_core.specs.Encoding.{encoding}
use Rattle.der_core.specs.Structure.{IsWithin}
use Rattle.extension_types.specs.KeyUsage.{key_usage}
use Rattle.extension_types.specs.BasicConstraints.{basic_constraints, IsBasicConstraints}
use Rattle.extension_types.specs.AuthorityKeyIdentifier.{authority_key_identifier}
use Rattle.extension_types.specs.ExtendedKeyUsage.{extended_key_usage}
use Rattle.name_types.specs.GeneralName.{general_names, AreGeneralNames}
use Rattle.name_types.specs.declared.general_name.RawGeneralName.{RawGeneralName}
use Rattle.x509_types.specs.declared.extension.view.ExtensionKind.{ExtensionKind}
use Rattle.x509_types.specs.declared.extension.view.ExtensionKind.TheVariants as kinds
use Rattle.x509_types.specs.declared.extension.view.ExtensionView.{ExtensionView}
use Rattle.x509_types.specs.declared.extension.view.ExtensionView.TheVariants as views

-- the kind that an OID identifies, by its contents octets (RFC 5280 4.2.1.1 to 4.2.1.3, 4.2.1.6,
-- 4.2.1.7, 4.2.1.9, 4.2.1.12)
abbrev pub named_kind : List ℕ → ExtensionKind
named_kind oid =
    if bytes_eq oid CE_SUBJECT_KEY_IDENTIFIER.now then kinds.SubjectKeyIdentifier
    else (if bytes_eq oid CE_KEY_USAGE.now then kinds.KeyUsage
    else (if bytes_eq oid CE_SUBJECT_ALT_NAME.now then kinds.SubjectAltName
    else (if bytes_eq oid CE_ISSUER_ALT_NAME.now then kinds.IssuerAltName
    else (if bytes_eq oid CE_BASIC_CONSTRAINTS.now then kinds.BasicConstraints
    else (if bytes_eq oid CE_AUTHORITY_KEY_IDENTIFIER.now then kinds.AuthorityKeyIdentifier
    else (if bytes_eq oid CE_EXT_KEY_USAGE.now then kinds.ExtendedKeyUsage
    else kinds.Other))))))

-- a number for each kind
abbrev pub extension_kind_number : ExtensionKind → ℕ
extension_kind_number kinds.SubjectKeyIdentifier = 0
extension_kind_number kinds.KeyUsage = 1
extension_kind_number kinds.SubjectAltName = 2
extension_kind_number kinds.IssuerAltName = 3
extension_kind_number kinds.BasicConstraints = 4
extension_kind_number kinds.AuthorityKeyIdentifier = 5
extension_kind_number kinds.ExtendedKeyUsage = 6
extension_kind_number kinds.Other = 7

-- the kind of a value
abbrev pub kind_of_view : ExtensionView → ExtensionKind
kind_of_view (views.SubjectKeyIdentifier key) = kinds.SubjectKeyIdentifier
kind_of_view (views.KeyUsage usage) = kinds.KeyUsage
kind_of_view (views.SubjectAltName names) = kinds.SubjectAltName
kind_of_view (views.IssuerAltName names) = kinds.IssuerAltName
kind_of_view (views.BasicConstraints constraints) = kinds.BasicConstraints
kind_of_view (views.AuthorityKeyIdentifier key) = kinds.AuthorityKeyIdentifier
kind_of_view (views.ExtendedKeyUsage usage) = kinds.ExtendedKeyUsage
kind_of_view (views.Raw octets) = kinds.Other

-- SubjectKeyIdentifier ::= KeyIdentifier, KeyIdentifier ::= OCTET STRING (RFC 5280 4.2.1.1,
-- 4.2.1.2)
abbrev pub key_identifier : List ℕ → DerElement
key_identifier = octet_string

-- the octets that are written for a value: the encoding of its element, or its raw octets
abbrev pub value_octets : ExtensionView → List ℕ
value_octets (views.SubjectKeyIdentifier key) = encoding (key_identifier key)
value_octets (views.KeyUsage usage) = encoding (key_usage usage)
value_octets (views.SubjectAltName names) = encoding (general_names names)
value_octets (views.IssuerAltName names) = encoding (general_names names)
value_octets (views.BasicConstraints constraints) = encoding (basic_constraints constraints)
value_octets (views.AuthorityKeyIdentifier key) = encoding (authority_key_identifier key)
value_octets (views.ExtendedKeyUsage usage) = encoding (extended_key_usage usage)
value_octets (views.Raw octets) = octets

-- what these octets wrap as an element of its own
abbrev pub inner_value : ExtensionView → List DerElement
inner_value (views.SubjectKeyIdentifier key) = key_identifier key ∷ []
inner_value (views.KeyUsage usage) = key_usage usage ∷ []
inner_value (views.SubjectAltName names) = general_names names ∷ []
inner_value (views.IssuerAltName names) = general_names names ∷ []
inner_value (views.BasicConstraints constraints) = basic_constraints constraints ∷ []
inner_value (views.AuthorityKeyIdentifier key) = authority_key_identifier key ∷ []
inner_value (views.ExtendedKeyUsage usage) = extended_key_usage usage ∷ []
inner_value (views.Raw octets) = []

-- The octets hold the value: the encoding of one element that encodes it, and nothing more, or its
-- raw octets.
abbrev pub IsValueIn : List ℕ → ExtensionView → Type 0
IsValueIn octets (views.SubjectKeyIdentifier key) = IsWithin (Prints key_identifier) octets key
IsValueIn octets (views.KeyUsage usage) = IsWithin (Prints key_usage) octets usage
IsValueIn octets (views.SubjectAltName names) = IsWithin AreGeneralNames octets names
IsValueIn octets (views.IssuerAltName names) = IsWithin AreGeneralNames octets names
IsValueIn octets (views.BasicConstraints constraints) =
    IsWithin IsBasicConstraints octets constraints
IsValueIn octets (views.AuthorityKeyIdentifier key) =
    IsWithin (Prints authority_key_identifier) octets key
IsValueIn octets (views.ExtendedKeyUsage usage) = IsWithin (Prints extended_key_usage) octets usage
IsValueIn octets (views.Raw kept) = octets ≡ kept

-- the octets encode no general names
abbrev pub HoldsNoNames : List ℕ → Type 0
HoldsNoNames octets = (names : List RawGeneralName) → IsWithin AreGeneralNames octets names → ⊥

-- octets are raw if the OID is of no known kind, and under the two kinds of alternative names if
-- they encode no general names
abbrev pub MayBeKept : ExtensionKind → List ℕ → Type 0
MayBeKept kinds.SubjectKeyIdentifier octets = ⊥
MayBeKept kinds.KeyUsage octets = ⊥
MayBeKept kinds.SubjectAltName octets = HoldsNoNames octets
MayBeKept kinds.IssuerAltName octets = HoldsNoNames octets
MayBeKept kinds.BasicConstraints octets = ⊥
MayBeKept kinds.AuthorityKeyIdentifier octets = ⊥
MayBeKept kinds.ExtendedKeyUsage octets = ⊥
MayBeKept kinds.Other octets = ⊤

-- an extension whose OID is of the kind may have the value
abbrev pub IsOfKind : ExtensionKind → ExtensionView → Type 0
IsOfKind kind (views.SubjectKeyIdentifier key) = kinds.SubjectKeyIdentifier ≡ kind
IsOfKind kind (views.KeyUsage usage) = kinds.KeyUsage ≡ kind
IsOfKind kind (views.SubjectAltName names) = kinds.SubjectAltName ≡ kind
IsOfKind kind (views.IssuerAltName names) = kinds.IssuerAltName ≡ kind
IsOfKind kind (views.BasicConstraints constraints) = kinds.BasicConstraints ≡ kind
IsOfKind kind (views.AuthorityKeyIdentifier key) = kinds.AuthorityKeyIdentifier ≡ kind
IsOfKind kind (views.ExtendedKeyUsage usage) = kinds.ExtendedKeyUsage ≡ kind
IsOfKind kind (views.Raw octets) = MayBeKept kind octets

-- the octets hold the value, which is of the kind
abbrev pub IsValueOf : ExtensionKind → List ℕ → ExtensionView → Type 0
IsValueOf kind octets view = IsOfKind kind view × IsValueIn octets view

-- the kind of a value, and its octets
abbrev pub view_octets : ExtensionView → List ℕ
view_octets view = extension_kind_number (kind_of_view view) ∷ value_octets view
