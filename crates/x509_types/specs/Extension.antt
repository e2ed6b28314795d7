-- Extension ::= SEQUENCE { extnID OBJECT IDENTIFIER, critical BOOLEAN DEFAULT FALSE, extnValue
-- OCTET STRING } (RFC 5280 4.1, 4.1.2.9)
use Rattle.std.specs.Prelude.{◌≡◌, ℕ, Bool, false, List, [], ◌∷◌, ◌++◌, map, Option, Some, None}
use Rattle.der_core.specs.DerElement.{DerElement}
use Rattle.der_core.specs.Elements.{sequence, octet_string}
use Rattle.der_core.specs.Encoding.{encoding}
use Rattle.asn1_types.specs.Values.{identifier_contents}
use Rattle.asn1_types.specs.Elements.{object_identifier}
use Rattle.asn1_types.specs.declared.oid.ObjectIdentifier.{ObjectIdentifier}
use Rattle.der_core.specs.Default.{default_false}
use Rattle.x509_types.specs.ExtensionView.{named_kind, extension_kind_number, kind_of_view, value_octets, IsValueIn, IsValueOf}
use Rattle.x509_types.specs.ExtensionFields.{IsExtensionOf}
use Rattle.x509_types.specs.declared.extension.Extension.{Extension}
use Rattle.x509_types.specs.declared.extension.view.ExtensionView.{ExtensionView}

-- the element that is written: FALSE is absent, TRUE is FF
abbrev pub extension : Extension → DerElement
extension e =
    sequence (object_identifier e.extn_id ∷
    (default_false e.critical ++ octet_string (value_octets e.extn_value) ∷ []))

-- the kind of the value, and the encoding
abbrev pub extension_octets : Extension → List ℕ
extension_octets e = extension_kind_number (kind_of_view e.extn_value) ∷ encoding (extension e)

-- the kinds of the values of extensions, if there are any
abbrev pub value_kinds : Option (List Extension) → List ℕ
value_kinds None = []
value_kinds (Some extensions) =
    map (λ e. extension_kind_number (kind_of_view e.extn_value)) extensions

-- The element encodes the extension.
pub record IsExtension (element : DerElement) (e : Extension) : Type 0 where
  pub octets : List ℕ
  pub fields : IsExtensionOf element (object_identifier e.extn_id) e.critical octets
  pub value : IsValueIn octets e.extn_value

-- the octets encode the value, whose kind is that of the OID
abbrev pub IsNamedValue : ObjectIdentifier → List ℕ → ExtensionView → Type 0
IsNamedValue id = IsValueOf (named_kind (identifier_contents id))

-- The extension has this OID, by its contents octets, and this value, and isn't critical.
pub record IsPlainExtension (e : Extension) (oid : List ℕ) (value : ExtensionView) : Type 0 where
  pub named : identifier_contents e.extn_id ≡ oid
  pub not_critical : e.critical ≡ false
  pub valued : e.extn_value ≡ value

-- The extension has this OID and the value that the octets encode under it, and isn't critical.
pub record IsRawExtension (e : Extension) (id : ObjectIdentifier) (octets : List ℕ) : Type 0 where
  pub named : e.extn_id ≡ id
  pub not_critical : e.critical ≡ false
  pub valued : IsNamedValue id octets e.extn_value

-- the OID of an extension
abbrev pub extension_id : Extension → ObjectIdentifier
extension_id e = e.extn_id

-- whether an extension is critical
abbrev pub is_critical : Extension → Bool
is_critical e = e.critical

-- the value of an extension
abbrev pub extension_value : Extension → ExtensionView
extension_value e = e.extn_value
