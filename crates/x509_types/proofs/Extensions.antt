-- Extensions by their fields.
use Rattle.std.proofs.Common.{◌≡◌, ℕ, List, [], ◌∷◌, ◌++◌, sym, ap, subst, ◌∙◌}
use Rattle.std.specs.Prelude.{Bool}
use Rattle.der_core.specs.DerElement.{DerElement, Primitive, tag_of}
use Rattle.der_core.specs.Elements.{sequence}
use Rattle.der_core.specs.Default.{IsBoolean, IsDefaultFalse, HasBadFlag}
use Rattle.x509_types.specs.ExtensionFields.{IsExtensionOf}
use Rattle.der_core.specs.Facts.Grammars.{same_fields}

bad_in : (flag : List DerElement) (octets : List ℕ) (b : Bool) (kid : DerElement)
    (rest : List DerElement) → kid ∷ rest ≡ flag ++ Primitive 0x04 octets ∷ []
    → IsDefaultFalse flag b → tag_of kid ≡ 0x01
    → ((c : Bool) → IsBoolean kid c → ⊥) → ⊥
bad_in [] octets b kid rest e is tagged none =
    let same : kid ≡ Primitive 0x04 octets = cc in
    let tags : 0x01 ≡ 0x04 = sym tagged ∙ ap tag_of same in
    absurd cc
bad_in (k ∷ []) octets b kid rest e is tagged none =
    let same : k ≡ kid = cc in
    none b (subst (λ (x : DerElement). IsBoolean x b) same is)
bad_in (k ∷ m ∷ ks) octets b kid rest e is tagged none = is

-- an element with a bad flag is no extension
pub bad_critical : (element : DerElement) (all rest : List DerElement) (first oid : DerElement)
    (b : Bool) (octets : List ℕ) → element ≡ sequence all → all ≡ first ∷ rest → HasBadFlag rest
    → IsExtensionOf element oid b octets → ⊥
bad_critical element all rest first oid b octets holds are bad is =
    let kids : first ∷ rest ≡ oid ∷ (is.flag ++ Primitive 0x04 octets ∷ []) =
    sym are ∙ same_fields all (oid ∷ (is.flag ++ Primitive 0x04 octets ∷ [])) (sym holds ∙ is.is) in
    let behind : rest ≡ is.flag ++ Primitive 0x04 octets ∷ [] = cc in
    bad_in is.flag octets b bad.kid bad.rest (sym bad.are ∙ behind) is.flagged bad.tagged bad.none

-- the first field of an extension is its OID
pub first_field : (element : DerElement) (all rest : List DerElement) (first oid : DerElement)
    (b : Bool) (octets : List ℕ) → element ≡ sequence all → all ≡ first ∷ rest
    → IsExtensionOf element oid b octets → first ≡ oid
first_field element all rest first oid b octets holds are is =
    let kids : first ∷ rest ≡ oid ∷ (is.flag ++ Primitive 0x04 octets ∷ []) =
    sym are ∙ same_fields all (oid ∷ (is.flag ++ Primitive 0x04 octets ∷ [])) (sym holds ∙ is.is) in
    cc

-- an extension has fields
pub some_fields : (element : DerElement) (all : List DerElement) (oid : DerElement) (b : Bool)
    (octets : List ℕ) → element ≡ sequence all → all ≡ [] → IsExtensionOf element oid b octets → ⊥
some_fields element all oid b octets holds are is =
    let kids : [] ≡ oid ∷ (is.flag ++ Primitive 0x04 octets ∷ []) =
    sym are ∙ same_fields all (oid ∷ (is.flag ++ Primitive 0x04 octets ∷ [])) (sym holds ∙ is.is) in
    absurd cc
