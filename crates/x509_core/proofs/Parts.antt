-- Parts of basic constraints and of the authority key identifier, in their elements and in their
-- values.
use Rattle.std.proofs.Common.{◌≡◌, ℕ, List, [], ◌∷◌, ◌++◌, Option, Some, None, refl, sym, ap, subst, ◌∙◌, arith}
use Rattle.std.specs.Prelude.{Bool, false, option_to_list}
use Rattle.der_core.specs.DerElement.{DerElement, Primitive, tag_of}
use Rattle.der_core.specs.Elements.{sequence, optional_leaf}
use Rattle.der_core.specs.Default.{IsBoolean}
use Rattle.der_core.specs.Facts.Fields.{split}
use Rattle.der_core.specs.Facts.Grammars.{same_fields}
use Rattle.der_core.specs.BorrowedOption.{kept_option}
use Rattle.extension_types.specs.AuthorityIssuer.{HasIssuerTag}
use Rattle.extension_types.specs.AuthorityKeyIdentifier.{authority_key_of, authority_key_identifier}
use Rattle.extension_types.specs.BasicConstraints.{small_integer, optional_integer, IsBasicConstraints}
use Rattle.extension_types.specs.Boolean.{IsOptionalBoolean}
use Rattle.extension_types.specs.Facts.Constraints.{boolean_once, default_field, lengths_once, no_flag, optional_field}
use Rattle.extension_types.specs.declared.authority_key_identifier.AuthorityKeyIdentifier.{AuthorityKeyIdentifier}
use Rattle.extension_types.specs.declared.basic_constraints.BasicConstraints.{BasicConstraints}
use Rattle.x509_types.specs.ExtensionParts.{HasFirstElement, EndsWithLength, IsAuthorityKeyIdentifier}

-- ---- flags

no_boolean : (number : Option ℕ) (kid : DerElement) (kids : List DerElement) (b : Bool) → optional_integer number ≡ kid ∷ kids → IsBoolean kid b → ⊥
no_boolean None kid kids b e is = absurd cc
no_boolean (Some number) kid kids b e is =
    let same : small_integer number ≡ kid = cc in
    let tags : 2 ≡ 1 = ap tag_of same ∙ ap tag_of is.1 in
    omega (arith, tags)

flag_among : (ca : Option Bool) (number : Option ℕ) (flag kids : List DerElement) (kid : DerElement) (b : Bool) → IsOptionalBoolean flag ca
    → flag ++ optional_integer number ≡ kid ∷ kids → IsBoolean kid b → ca ≡ Some b
flag_among None number flag kids kid b flagged e is =
    absurd (no_boolean number kid kids b (subst (λ (f : List DerElement). f ++ optional_integer number ≡ kid ∷ kids) flagged e) is)
flag_among (Some x) number flag kids kid b flagged e is =
    let one : flagged.0 ∷ optional_integer number ≡ kid ∷ kids = subst (λ (f : List DerElement). f ++ optional_integer number ≡ kid ∷ kids) flagged.1 e in
    let same : flagged.0 ≡ kid = cc in
    ap Some (boolean_once kid x b (subst (λ (k : DerElement). IsBoolean k x) same flagged.2) is)

pub flag_of : (element : DerElement) (b : BasicConstraints) (flag : Bool) → IsBasicConstraints element b → HasFirstElement IsBoolean element flag
    → b.ca ≡ Some flag
flag_of element b flag is begins =
    flag_among b.ca b.pathlen is.flag begins.kids begins.kid flag is.flagged
    (same_fields (is.flag ++ optional_integer b.pathlen) (begins.kid ∷ begins.kids) (sym is.is ∙ begins.is)) begins.says

flag_stands : (element : DerElement) (ca : Option Bool) (number : Option ℕ) (flag : List DerElement) (b : Bool) → IsOptionalBoolean flag ca
    → element ≡ sequence (flag ++ optional_integer number) → ca ≡ Some b → HasFirstElement IsBoolean element b
flag_stands element None number flag b flagged is given = absurd cc
flag_stands element (Some x) number flag b flagged is given =
    let same : x ≡ b = cc in
    record {
      kid = flagged.0;
      kids = optional_integer number;
      is = is ∙ ap (λ (f : List DerElement). sequence (f ++ optional_integer number)) flagged.1;
      says = subst (IsBoolean flagged.0) same flagged.2;
    }

pub begins_with_flag : (element : DerElement) (b : BasicConstraints) (flag : Bool) → IsBasicConstraints element b → b.ca ≡ Some flag
    → HasFirstElement IsBoolean element flag
begins_with_flag element b flag is given = flag_stands element b.ca b.pathlen is.flag flag is.flagged is.is given

-- ---- path lengths

pub length_of : (element : DerElement) (b : BasicConstraints) (number : ℕ) → IsBasicConstraints element b → EndsWithLength element number
    → b.pathlen ≡ Some number
length_of element b number is ends =
    let kids = same_fields (is.flag ++ optional_integer b.pathlen) (ends.flag ++ small_integer number ∷ []) (sym is.is ∙ ends.is) in
    let parts = split 0x01 is.flag ends.flag (optional_integer b.pathlen) (optional_integer (Some number)) (optional_field is.flag b.ca is.flagged)
    (default_field ends.flag ends.ca ends.flagged) (λ e. no_flag b.pathlen) (λ e. no_flag (Some number)) kids in
    lengths_once b.pathlen (Some number) parts.1

length_stands : (element : DerElement) (ca : Option Bool) (flag : List DerElement) (number : ℕ) → IsOptionalBoolean flag ca
    → element ≡ sequence (flag ++ small_integer number ∷ []) → EndsWithLength element number
length_stands element None flag number flagged is =
    record { flag = []; ca = false; flagged = refl; is = is ∙ ap (λ (f : List DerElement). sequence (f ++ small_integer number ∷ [])) flagged }
length_stands element (Some x) flag number flagged is =
    record { flag = flagged.0 ∷ []; ca = x; flagged = flagged.2; is = is ∙ ap (λ (f : List DerElement). sequence (f ++ small_integer number ∷ [])) flagged.1 }

pub ends_with_length : (element : DerElement) (b : BasicConstraints) (number : ℕ) → IsBasicConstraints element b → b.pathlen ≡ Some number
    → EndsWithLength element number
ends_with_length element b number is given =
    length_stands element b.ca is.flag number is.flagged (is.is ∙ ap (λ (n : Option ℕ). sequence (is.flag ++ optional_integer n)) given)

-- ---- key identifiers

key_among : (key : Option (List ℕ)) (issuer : Option DerElement) (number : Option (List ℕ)) (kid : DerElement) (kids : List DerElement) (k : List ℕ)
    → HasIssuerTag issuer
    → optional_leaf 0x80 key ++ (option_to_list issuer ++ optional_leaf 0x82 number) ≡ kid ∷ kids → kid ≡ Primitive 0x80 k → key ≡ Some k
key_among (Some x) issuer number kid kids k tagged e is =
    let same : Primitive 0x80 x ≡ kid = cc in
    let octets : x ≡ k = cc in
    ap Some octets
key_among None (Some y) number kid kids k tagged e is =
    let same : y ≡ kid = cc in
    let tags : 0xA1 ≡ 0x80 = sym tagged ∙ ap tag_of same ∙ ap tag_of is in
    absurd (omega (arith, tags))
key_among None None (Some z) kid kids k tagged e is =
    let same : Primitive 0x82 z ≡ kid = cc in
    let tags : 0x82 ≡ 0x80 = ap tag_of same ∙ ap tag_of is in
    absurd (omega (arith, tags))
key_among None None None kid kids k tagged e is = absurd cc

pub key_of : (element : DerElement) (a : AuthorityKeyIdentifier) (key : List ℕ) → element ≡ authority_key_identifier a
    → HasFirstElement IsAuthorityKeyIdentifier element key → a.key_identifier ≡ Some key
key_of element a key is begins =
    key_among a.key_identifier (kept_option a.issuer) a.serial_number begins.kid begins.kids key a.tagged
    (same_fields (optional_leaf 0x80 a.key_identifier ++ (option_to_list (kept_option a.issuer) ++ optional_leaf 0x82 a.serial_number))
    (begins.kid ∷ begins.kids) (sym is ∙ begins.is)) begins.says

pub begins_with_key : (element : DerElement) (a : AuthorityKeyIdentifier) (key : List ℕ) → element ≡ authority_key_identifier a → a.key_identifier ≡ Some key
    → HasFirstElement IsAuthorityKeyIdentifier element key
begins_with_key element a key is given = record {
  kid = Primitive 0x80 key;
  kids = option_to_list (kept_option a.issuer) ++ optional_leaf 0x82 a.serial_number;
  is = is ∙ ap (λ (k : Option (List ℕ)). authority_key_of k (kept_option a.issuer) a.serial_number) given;
  says = refl;
}
