-- The first attribute with an OID: found here, found later, and found once.
use Rattle.std.proofs.Common.{◌≡◌, ℕ, List, [], ◌∷◌, ◌++◌, Option, Some, None, MatchOption, sym, ap, subst, ◌∙◌}
use Rattle.asn1_types.specs.declared.oids.TheConstants.{MESSAGE_DIGEST}
use Rattle.cms_types.specs.SignerElements.{SignerElements}
use Rattle.der_core.specs.DerElement.{DerElement, Primitive, row, listed}
use Rattle.der_core.specs.Elements.{sequence, set, octet_string}
use Rattle.der_core.specs.Facts.Rows.{listed-row}
use Rattle.authenticode_core.specs.SignedFields.{HasMessageDigest, IsAttributeOf, IsFirstAttribute, NoneIsOf, signed_attributes_of}

-- ---- an attribute

same_values : (v w : List DerElement) → row v ≡ row w → v ≡ w
same_values v w e = sym (listed-row v) ∙ ap listed e ∙ listed-row w

rows_of : (a b : DerElement) (v w : List DerElement) → sequence (a ∷ set v ∷ []) ≡ sequence (b ∷ set w ∷ []) → row v ≡ row w
rows_of a b v w e = cc

pub attribute_once : (oid : List ℕ) (element : DerElement) (v w : List DerElement) → IsAttributeOf oid element v → IsAttributeOf oid element w → v ≡ w
attribute_once oid element v w p q = same_values v w (rows_of (Primitive 0x06 oid) (Primitive 0x06 oid) v w (sym p ∙ q))

-- ---- the first with an OID

pub attribute_here : (oid : List ℕ) (all rest : List DerElement) (kid : DerElement) (values : List DerElement) → all ≡ kid ∷ rest → IsAttributeOf oid kid values
    → IsFirstAttribute oid all values
attribute_here oid all rest kid values are named = record { before = []; attribute = kid; after = rest; are = are; first = tt; named = named }

pub attribute_later : (oid : List ℕ) (all rest : List DerElement) (kid : DerElement) → all ≡ kid ∷ rest
    → ((values : List DerElement) → IsAttributeOf oid kid values → ⊥)
    → (values : List DerElement) → IsFirstAttribute oid rest values → IsFirstAttribute oid all values
attribute_later oid all rest kid are none values f = record {
  before = kid ∷ f.before;
  attribute = f.attribute;
  after = f.after;
  are = are ∙ ap (λ (r : List DerElement). kid ∷ r) f.are;
  first = (none, f.first);
  named = f.named;
}

passed_in : (oid : List ℕ) (rest before after : List DerElement) (kid x : DerElement) (values : List DerElement) → kid ∷ rest ≡ before ++ x ∷ after
    → ((v : List DerElement) → IsAttributeOf oid kid v → ⊥)
    → NoneIsOf oid before → IsAttributeOf oid x values → IsFirstAttribute oid rest values
passed_in oid rest [] after kid x values e none first named =
    let same : x ≡ kid = cc in
    absurd (none values (subst (λ (k : DerElement). IsAttributeOf oid k values) same named))
passed_in oid rest (b ∷ before) after kid x values e none first named =
    let are : rest ≡ before ++ x ∷ after = cc in
    record { before = before; attribute = x; after = after; are = are; first = first.1; named = named }

pub attribute_passed : (oid : List ℕ) (all rest : List DerElement) (kid : DerElement) → all ≡ kid ∷ rest
    → ((values : List DerElement) → IsAttributeOf oid kid values → ⊥)
    → (values : List DerElement) → IsFirstAttribute oid all values → IsFirstAttribute oid rest values
attribute_passed oid all rest kid are none values f = passed_in oid rest f.before f.after kid f.attribute values (sym are ∙ f.are) none f.first f.named

none_in : (before after : List DerElement) (x : DerElement) → [] ≡ before ++ x ∷ after → ⊥
none_in [] after x e = absurd cc
none_in (b ∷ before) after x e = absurd cc

pub no_attribute : (oid : List ℕ) (elements values : List DerElement) → elements ≡ [] → IsFirstAttribute oid elements values → ⊥
no_attribute oid elements values none f = none_in f.before f.after f.attribute (sym none ∙ f.are)

once_in : (oid : List ℕ) (before before' after after' : List DerElement) (x y : DerElement) (v w : List DerElement)
    → before ++ x ∷ after ≡ before' ++ y ∷ after'
    → NoneIsOf oid before → NoneIsOf oid before' → IsAttributeOf oid x v → IsAttributeOf oid y w → v ≡ w
once_in oid [] [] after after' x y v w e f g p q =
    let same : x ≡ y = cc in
    attribute_once oid y v w (subst (λ (k : DerElement). IsAttributeOf oid k v) same p) q
once_in oid [] (k ∷ before') after after' x y v w e f g p q =
    let same : x ≡ k = cc in
    absurd (g.0 v (subst (λ (m : DerElement). IsAttributeOf oid m v) same p))
once_in oid (k ∷ before) [] after after' x y v w e f g p q =
    let same : y ≡ k = cc in
    absurd (f.0 w (subst (λ (m : DerElement). IsAttributeOf oid m w) same q))
once_in oid (k ∷ before) (l ∷ before') after after' x y v w e f g p q =
    let rest : before ++ x ∷ after ≡ before' ++ y ∷ after' = cc in
    once_in oid before before' after after' x y v w rest f.1 g.1 p q

pub first_once : (oid : List ℕ) (elements v w : List DerElement) → IsFirstAttribute oid elements v → IsFirstAttribute oid elements w → v ≡ w
first_once oid elements v w p q = once_in oid p.before q.before p.after q.after p.attribute q.attribute v w (sym p.are ∙ q.are) p.first q.first p.named q.named

-- ---- the message digest

first_octets : (s t : List ℕ) (x y : List DerElement) → octet_string s ∷ x ≡ octet_string t ∷ y → s ≡ t
first_octets s t x y e = cc

pub message_digest_once : (g : SignerElements) (s t : List ℕ) → HasMessageDigest g s → HasMessageDigest g t → s ≡ t
message_digest_once g s t p q = first_octets s t p.others q.others
    (first_once MESSAGE_DIGEST.now (signed_attributes_of g) (octet_string s ∷ p.others) (octet_string t ∷ q.others) p.first q.first)

-- no first message digest, so none with a value
pub no_first : (g : SignerElements) (kids : List DerElement) → signed_attributes_of g ≡ kids
    → ((values : List DerElement) → IsFirstAttribute MESSAGE_DIGEST.now kids values → ⊥) → (digest : List ℕ) → HasMessageDigest g digest → ⊥
no_first g kids are none digest has = none (octet_string digest ∷ has.others)
    (subst (λ (ks : List DerElement). IsFirstAttribute MESSAGE_DIGEST.now ks (octet_string digest ∷ has.others)) are has.first)

-- the values of the first one are these
pub its_digest : (g : SignerElements) (kids values : List DerElement) → signed_attributes_of g ≡ kids → IsFirstAttribute MESSAGE_DIGEST.now kids values
    → (digest : List ℕ) → (has : HasMessageDigest g digest)
    → values ≡ octet_string digest ∷ has.others
its_digest g kids values are first digest has =
    first_once MESSAGE_DIGEST.now kids values (octet_string digest ∷ has.others) first
    (subst (λ (ks : List DerElement). IsFirstAttribute MESSAGE_DIGEST.now ks (octet_string digest ∷ has.others)) are has.first)

pub has_digest : (g : SignerElements) (kids values others : List DerElement) (first : DerElement) (digest : List ℕ) → signed_attributes_of g ≡ kids
    → IsFirstAttribute MESSAGE_DIGEST.now kids values → values ≡ first ∷ others → first ≡ octet_string digest
    → HasMessageDigest g digest
has_digest g kids values others first digest are is values_are first_is = record {
  others = others;
  first = subst (λ (ks : List DerElement). IsFirstAttribute MESSAGE_DIGEST.now ks (octet_string digest ∷ others)) (sym are)
      (subst (λ (vs : List DerElement). IsFirstAttribute MESSAGE_DIGEST.now kids vs) (values_are ∙ ap (λ (x : DerElement). x ∷ others) first_is) is);
}

-- without a value there is no message digest
pub no_value : (g : SignerElements) (kids values : List DerElement) → signed_attributes_of g ≡ kids → IsFirstAttribute MESSAGE_DIGEST.now kids values
    → values ≡ [] → (digest : List ℕ) → HasMessageDigest g digest → ⊥
no_value g kids values are first none digest has =
    let both : [] ≡ octet_string digest ∷ has.others = sym none ∙ its_digest g kids values are first digest has in
    absurd cc

-- what is found or not found of the first value is so of the message digest
pub digest_or_none : {K : Type 0} (now : K → List ℕ) (r : Option K) (g : SignerElements) (kids values others : List DerElement) (first : DerElement)
    → signed_attributes_of g ≡ kids → IsFirstAttribute MESSAGE_DIGEST.now kids values → values ≡ first ∷ others
    → MatchOption r ((content : List ℕ) → first ≡ octet_string content → ⊥) (λ k. first ≡ octet_string (now k))
    → MatchOption r ((digest : List ℕ) → HasMessageDigest g digest → ⊥) (λ k. HasMessageDigest g (now k))
digest_or_none now None g kids values others first are is values_are none = λ digest has.
    let both : first ∷ others ≡ octet_string digest ∷ has.others = sym values_are ∙ its_digest g kids values are is digest has in
    let same : first ≡ octet_string digest = cc in
    none digest same
digest_or_none now (Some k) g kids values others first are is values_are first_is = has_digest g kids values others first (now k) are is values_are first_is
