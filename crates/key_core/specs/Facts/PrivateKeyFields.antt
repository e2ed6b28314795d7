-- The element of a PrivateKeyInfo determines its fields.
use Rattle.std.proofs.Common.{◌≡◌, ℕ, List, ◌∷◌, ◌++◌, Option, Some, None, arith}
use Rattle.std.specs.Prelude.{option_to_list}
use Rattle.der_core.specs.DerElement.{DerElement}
use Rattle.der_core.specs.Elements.{octet_string, optional_leaf}
use Rattle.der_core.specs.Structure.{BeginsOtherwise}
use Rattle.der_core.specs.Facts.Fields.{IsField, split}
use Rattle.der_core.specs.Facts.Grammars.{same_fields}
use Rattle.der_core.specs.Facts.Optional.{kept_once, leaf_once}
use Rattle.key_core.specs.PrivateKeyFields.{HaveTag, private_key_info_of}

attributes_field : (attributes : Option DerElement) → HaveTag attributes → IsField 0xA0 (option_to_list attributes)
attributes_field None tagged = tt
attributes_field (Some attributes) tagged = tagged

other_tag : (public_key : Option (List ℕ)) → BeginsOtherwise 0xA0 (optional_leaf 0x81 public_key)
other_tag None = tt
other_tag (Some content) = λ e. omega (arith, e)

pub fields_once : (v w a b : DerElement) (k l : List ℕ) (p q : Option DerElement) (m n : Option (List ℕ)) → HaveTag p → HaveTag q
    → private_key_info_of v a k p m ≡ private_key_info_of w b l q n → (v ≡ w) × (a ≡ b) × (k ≡ l) × (p ≡ q) × (m ≡ n)
fields_once v w a b k l p q m n f g e =
    let kids = same_fields (v ∷ a ∷ octet_string k ∷ (option_to_list p ++ optional_leaf 0x81 m))
    (w ∷ b ∷ octet_string l ∷ (option_to_list q ++ optional_leaf 0x81 n)) e in
    let version : v ≡ w = cc in
    let algorithm : a ≡ b = cc in
    let key : k ≡ l = cc in
    let others : option_to_list p ++ optional_leaf 0x81 m ≡ option_to_list q ++ optional_leaf 0x81 n = cc in
    let parts = split 0xA0 (option_to_list p) (option_to_list q) (optional_leaf 0x81 m)
    (optional_leaf 0x81 n) (attributes_field p f) (attributes_field q g) (λ none. other_tag m)
    (λ none. other_tag n) others in
    (version, algorithm, key, kept_once p q parts.0, leaf_once 0x81 m n parts.1)
