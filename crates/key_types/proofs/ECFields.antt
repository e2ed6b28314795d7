-- Private keys of elliptic curves by their fields.
use Rattle.std.proofs.Common.{◌≡◌, ◌↔◌, IsTrue, Bool, false, ℕ, List, Option, sym, ap, ◌∙◌}
use Rattle.std.specs.Prelude.{◌&&◌, ◌==◌, bytes_eq}
use Rattle.std.specs.Option.{option_map, option_eq}
use Rattle.std.proofs.lemmas.Slice.Eq.{bytes_eq-Decides}
use Rattle.std.proofs.lemmas.Bool.{and_parts, and_from}
use Rattle.std.proofs.lemmas.Bool.Decides.{Decides-eqb}
use Rattle.der_core.specs.Each.{Prints}
use Rattle.der_core.specs.DerElement.{DerElement}
use Rattle.der_core.specs.Elements.{octet_string}
use Rattle.der_core.specs.Facts.Equality.{options_same}
use Rattle.der_core.specs.Facts.Optional.{printed_option, option_printed}
use Rattle.asn1_types.specs.Elements.{object_identifier, bit_string}
use Rattle.asn1_types.specs.Facts.Elements.{same_oid, same_bits}
use Rattle.asn1_types.specs.declared.oid.ObjectIdentifier.{ObjectIdentifier}
use Rattle.asn1_types.specs.declared.bit_string.BitString.{BitString}
use Rattle.der_core.specs.Optional.{SpellsOption}
use Rattle.key_types.specs.ECPrivateKey.{ec_private_key_of, ec_private_key}
use Rattle.key_types.specs.Facts.ECPrivateKeys.{fields_once}
use Rattle.key_types.specs.declared.ec_private_key.ECPrivateKey.{ECPrivateKey}

-- an element with these fields is a key's exactly if they are those of its values
pub of_parts : (t k : DerElement) (p b : Option DerElement) → t ≡ ec_private_key_of k p b
    → (octets : List ℕ) → k ≡ octet_string octets
    → (curve : Option ObjectIdentifier) → SpellsOption (Prints object_identifier) p curve
    → (bits : Option BitString) → SpellsOption (Prints bit_string) b bits
    → (key : ECPrivateKey) × (t ≡ ec_private_key key)
of_parts t k p b is octets key curve parameters bits public_key = (
  record { private_key = octets; parameters = curve; public_key = bits },
  is
      ∙ ap (λ (e : DerElement). ec_private_key_of e p b) key
      ∙ ap (λ (e : Option DerElement). ec_private_key_of (octet_string octets) e b) (printed_option object_identifier p curve parameters)
      ∙ ap (ec_private_key_of (octet_string octets) (option_map object_identifier curve)) (printed_option bit_string b bits public_key),
)

pub parts_of : (t k : DerElement) (p b : Option DerElement) → t ≡ ec_private_key_of k p b → (key : ECPrivateKey) → t ≡ ec_private_key key
    → (k ≡ octet_string key.private_key) × SpellsOption (Prints object_identifier) p key.parameters × SpellsOption (Prints bit_string) b key.public_key
parts_of t k p b is key spells =
    let parts = fields_once k (octet_string key.private_key) p (option_map object_identifier key.parameters) b (option_map bit_string key.public_key)
    (sym is ∙ spells) in
    (parts.0, option_printed object_identifier p key.parameters parts.1, option_printed bit_string b key.public_key parts.2)

-- ---- equality

abbrev oid_eq : ObjectIdentifier → ObjectIdentifier → Bool
oid_eq a b = bytes_eq a.contents b.contents

abbrev bits_eq : BitString → BitString → Bool
bits_eq a b = a.unused == b.unused && bytes_eq a.payload b.payload

oids_same : (a b : ObjectIdentifier) → IsTrue (oid_eq a b) ↔ (a ≡ b)
oids_same a b =
    let decides = bytes_eq-Decides a.contents b.contents in
    (λ t. same_oid a b (decides.0 t), λ e. decides.1 (ap (λ (o : ObjectIdentifier). o.contents) e))

bits_same : (a b : BitString) → IsTrue (bits_eq a b) ↔ (a ≡ b)
bits_same a b =
    let unused = Decides-eqb a.unused b.unused in
    let payload = bytes_eq-Decides a.payload b.payload in (
      λ t.
          let parts = and_parts (a.unused == b.unused) (bytes_eq a.payload b.payload) t in
          same_bits a b (unused.0 parts.0) (payload.0 parts.1),
      λ e. and_from (a.unused == b.unused) (bytes_eq a.payload b.payload) (unused.1 (ap (λ (v : BitString). v.unused) e))
          (payload.1 (ap (λ (v : BitString). v.payload) e)),
    )

curves_same : (a b : Option ObjectIdentifier) → IsTrue (option_eq oid_eq a b) ↔ (a ≡ b)
curves_same = options_same oid_eq oids_same

points_same : (a b : Option BitString) → IsTrue (option_eq bits_eq a b) ↔ (a ≡ b)
points_same = options_same bits_eq bits_same

-- the other fields are the same, so the keys are if the points are
pub by_point : (a b : ECPrivateKey) (first last : Bool) → a.private_key ≡ b.private_key → first ≡ option_eq oid_eq a.parameters b.parameters → IsTrue first
    → last ≡ option_eq bits_eq a.public_key b.public_key
    → IsTrue last ↔ (a ≡ b)
by_point a b first last key curves w points =
    let parameters = (curves_same a.parameters b.parameters).0 (sym curves ∙ w) in
    let same = points_same a.public_key b.public_key in (
      λ t.
          let public_key = same.0 (sym points ∙ t) in
          λ i. record { private_key = key i; parameters = parameters i; public_key = public_key i },
      λ e. points ∙ same.1 (ap (λ (k : ECPrivateKey). k.public_key) e),
    )

-- the curves aren't the same, so the keys aren't
pub other_curve : (a b : ECPrivateKey) (value test : Bool) → value ≡ test → test ≡ option_eq oid_eq a.parameters b.parameters → value ≡ false
    → IsTrue value ↔ (a ≡ b)
other_curve a b value test is curves not =
    let same = curves_same a.parameters b.parameters in
    (λ t. absurd cc (not, t), λ e. is ∙ curves ∙ same.1 (ap (λ (k : ECPrivateKey). k.parameters) e))

-- the numbers aren't the same, so the keys aren't
pub other_secret : (a b : ECPrivateKey) (value test : Bool) → (IsTrue test ↔ (a.private_key ≡ b.private_key)) → test ≡ false → value ≡ false
    → IsTrue value ↔ (a ≡ b)
other_secret a b value test same unlike is =
    (λ t. absurd cc (is, t), λ e. absurd cc (unlike, same.1 (ap (λ (k : ECPrivateKey). k.private_key) e)))
