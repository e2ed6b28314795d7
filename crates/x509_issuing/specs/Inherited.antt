-- The extensions that a request asks for, and those of them that a certificate gets.
use Rattle.std.specs.Prelude.{ℕ, Bool, if◌then◌else◌, bytes_eq, List, [], ◌∷◌, ◌++◌, Option, Some, None}
use Rattle.std.specs.List.{list_any}
use Rattle.asn1_types.specs.Values.{identifier_contents}
use Rattle.x509_types.specs.Extension.{extension_id}
use Rattle.x509_types.specs.declared.attribute.Attribute.{Attribute}
use Rattle.x509_types.specs.declared.attribute.values.AttributeValues.{AttributeValues}
use Rattle.x509_types.specs.declared.attribute.values.AttributeValues.TheVariants as values
use Rattle.x509_types.specs.declared.extension.Extension.{Extension}

-- the first value of an attribute that asks for extensions (RFC 2985 5.4.2), if it has one
abbrev pub asked_by : AttributeValues → Option (List Extension)
asked_by (values.Extensions []) = None
asked_by (values.Extensions (first ∷ others)) = Some first
asked_by (values.ContentType types) = None
asked_by (values.MessageDigest digests) = None
asked_by (values.Raw kept) = None

-- the list, if there is one, else the other extensions
abbrev pub or_else : Option (List Extension) → List Extension → List Extension
or_else None others = others
or_else (Some extensions) others = extensions

-- the extensions that attributes ask for: those in the first value of the first one that asks for
-- some
abbrev pub asked_first : List Attribute → List Extension
asked_first [] = []
asked_first (attribute ∷ attributes) = or_else (asked_by attribute.value) (asked_first attributes)

-- the same, if attributes are given
abbrev pub asked_in : Option (List Attribute) → List Extension
asked_in None = []
asked_in (Some attributes) = asked_first attributes

-- whether one of the extensions has this OID, given by its contents octets
abbrev pub has_one : List Extension → List ℕ → Bool
has_one extensions oid =
    list_any (λ (e : Extension). bytes_eq (identifier_contents (extension_id e)) oid) extensions

-- the extensions and one more, unless its OID is there already
abbrev pub with_one : List Extension → Extension → List Extension
with_one extensions e =
    if has_one extensions (identifier_contents (extension_id e))
    then extensions
    else extensions ++ e ∷ []

-- the extensions and the others in order, except those with an OID that is there already
abbrev pub with_others : List Extension → List Extension → List Extension
with_others extensions [] = extensions
with_others extensions (e ∷ others) = with_others (with_one extensions e) others
