-- Private keys of elliptic curves: different ones have different elements, each well formed.
use Rattle.std.proofs.Common.{◌≡◌, [], ◌∷◌, ◌++◌, Option, Some, None, refl, arith}
use Rattle.std.specs.Option.{option_map}
use Rattle.der_core.specs.DerElement.{DerElement, row}
use Rattle.der_core.specs.Elements.{octet_string, optional_explicit}
use Rattle.der_core.specs.Encoding.{AreWellFormed}
use Rattle.der_core.specs.Structure.{IsGrammar, BeginsOtherwise}
use Rattle.der_core.specs.Facts.Optional.{options_once, explicit_once, explicit_split, explicit_formed, option_formed, last_formed}
use Rattle.der_core.specs.Facts.Grammars.{printed, same_fields}
use Rattle.der_core.specs.Facts.OctetStrings.{octet_strings}
use Rattle.asn1_types.specs.Elements.{object_identifier, bit_string}
use Rattle.asn1_types.specs.Facts.Elements.{identifiers, bit_strings}
use Rattle.asn1_types.specs.declared.oid.ObjectIdentifier.{ObjectIdentifier}
use Rattle.asn1_types.specs.declared.bit_string.BitString.{BitString}
use Rattle.key_types.specs.ECPrivateKey.{ec_version, ec_private_key_of, ec_private_key}
use Rattle.key_types.specs.declared.ec_private_key.ECPrivateKey.{ECPrivateKey}

-- ---- keys

pub other_tag : (public_key : Option DerElement) → BeginsOtherwise 0xA0 (optional_explicit 0xA1 public_key)
other_tag None = tt
other_tag (Some kid) = λ e. omega (arith, e)

pub fields_once : (k l : DerElement) (p q b c : Option DerElement) → ec_private_key_of k p b ≡ ec_private_key_of l q c → (k ≡ l) × (p ≡ q) × (b ≡ c)
fields_once k l p q b c e =
    let kids = same_fields (ec_version ∷ k ∷ (optional_explicit 0xA0 p ++ optional_explicit 0xA1 b))
    (ec_version ∷ l ∷ (optional_explicit 0xA0 q ++ optional_explicit 0xA1 c)) e in
    let key : k ≡ l = cc in
    let others : optional_explicit 0xA0 p ++ optional_explicit 0xA1 b ≡ optional_explicit 0xA0 q ++ optional_explicit 0xA1 c = cc in
    let parts = explicit_split 0xA0 p q (optional_explicit 0xA1 b) (optional_explicit 0xA1 c) (λ none. other_tag b) (λ none. other_tag c) others in
    (key, parts.0, explicit_once 0xA1 b c parts.1)

once : (a b : ECPrivateKey) → ec_private_key a ≡ ec_private_key b → a ≡ b
once a b e =
    let parts = fields_once (octet_string a.private_key) (octet_string b.private_key) (option_map object_identifier a.parameters)
    (option_map object_identifier b.parameters) (option_map bit_string a.public_key) (option_map bit_string b.public_key) e in
    let private_key : a.private_key ≡ b.private_key = octet_strings.once (octet_string a.private_key) a.private_key b.private_key refl parts.0 in
    let parameters : a.parameters ≡ b.parameters = options_once object_identifier (λ x y e. identifiers.once (object_identifier x) x y refl e)
    a.parameters b.parameters parts.1 in
    let public_key : a.public_key ≡ b.public_key =
    options_once bit_string (λ x y e. bit_strings.once (bit_string x) x y refl e) a.public_key b.public_key parts.2 in
    λ i. record { private_key = private_key i; parameters = parameters i; public_key = public_key i }

optional_formed : (curve : Option ObjectIdentifier) (bits : Option BitString)
    → AreWellFormed (row (optional_explicit 0xA0 (option_map object_identifier curve) ++ optional_explicit 0xA1 (option_map bit_string bits)))
optional_formed curve bits =
    explicit_formed 0xA0 (option_map object_identifier curve) (optional_explicit 0xA1 (option_map bit_string bits))
    (omega arith, omega arith, omega arith) refl (option_formed object_identifier identifiers.formed curve)
    (last_formed 0xA1 (option_map bit_string bits) (omega arith, omega arith, omega arith) refl
    (option_formed bit_string bit_strings.formed bits))

pub ec_private_keys : IsGrammar (λ element key. element ≡ ec_private_key key) ec_private_key (λ key. [])
ec_private_keys =
    printed ec_private_key once (λ key. (
      (omega arith, omega arith, omega arith),
      refl,
      (((omega arith, omega arith, omega arith), refl), (octet_strings.formed key.private_key, optional_formed key.parameters key.public_key)),
    ))
