-- The first extension with an OID: found here, found later, and found once.
use Rattle.std.proofs.Common.{◌≡◌, ℕ, List, [], ◌∷◌, ◌++◌, Option, Some, None, MatchOption, refl, sym, ap, subst, ◌∙◌}
use Rattle.der_core.specs.Optional.{members_of}
use Rattle.der_core.specs.DerElement.{DerElement, Primitive, Constructed, kids_of}
use Rattle.der_core.specs.Owned.{IsKept}
use Rattle.der_core.specs.BorrowedOption.{at_option}
use Rattle.der_core.specs.Facts.Owned.{one_kept}
use Rattle.der_core.specs.declared.elem.Elem.{Elem}
use Rattle.x509_types.specs.CertificateElements.{CertificateElements}
use Rattle.x509_types.specs.FirstExtension.{extensions_of, IsNamed, NoneIsNamed, IsFirstNamed, IsFirstValue, Says}
use Rattle.x509_types.specs.Facts.Extensions.{fields_once}

-- ---- the elements in the list of extensions

none_listed : (element : DerElement) → kids_of element ≡ None → members_of (Some element) ≡ []
none_listed (Primitive tag content) e = refl
none_listed (Constructed tag kids) e = absurd cc

listed_of : (element : DerElement) (kids : List DerElement) → kids_of element ≡ Some kids → members_of (Some element) ≡ kids
listed_of (Primitive tag content) kids e = absurd cc
listed_of (Constructed tag ks) kids e = cc

pub none_lent : (lent : Option Elem) (given : Option DerElement) → at_option lent ≡ given → lent ≡ None → members_of given ≡ []
none_lent lent given e none = ap members_of (sym e ∙ ap at_option none)

pub lent_kids : {K : Type 0} (now : K → List DerElement) (r : Option K) (lent : Option Elem) (elem : Elem) (given : Option DerElement) → at_option lent ≡ given
    → lent ≡ Some elem
    → MatchOption r (kids_of elem.is.0 ≡ None) (λ k. kids_of elem.is.0 ≡ Some (now k)) → MatchOption r (members_of given ≡ []) (λ k. members_of given ≡ now k)
lent_kids now None lent elem given e is none = ap members_of (sym e ∙ ap at_option is) ∙ none_listed elem.is.0 none
lent_kids now (Some k) lent elem given e is kids = ap members_of (sym e ∙ ap at_option is) ∙ listed_of elem.is.0 (now k) kids

-- ---- the first with an OID

pub first_here : (oid : List ℕ) (all rest : List DerElement) (kid : DerElement) (octets : List ℕ) → all ≡ kid ∷ rest → IsNamed oid kid octets
    → IsFirstNamed oid all octets
first_here oid all rest kid octets are named = record { before = []; extension = kid; after = rest; are = are; first = tt; named = named }

pub first_later : (oid : List ℕ) (all rest : List DerElement) (kid : DerElement) → all ≡ kid ∷ rest
    → ((octets : List ℕ) → IsNamed oid kid octets → ⊥) → (octets : List ℕ)
    → IsFirstNamed oid rest octets → IsFirstNamed oid all octets
first_later oid all rest kid are none octets f = record {
  before = kid ∷ f.before;
  extension = f.extension;
  after = f.after;
  are = are ∙ ap (λ (r : List DerElement). kid ∷ r) f.are;
  first = (none, f.first);
  named = f.named;
}

passed_in : (oid : List ℕ) (rest before after : List DerElement) (kid x : DerElement)
    (octets : List ℕ) → kid ∷ rest ≡ before ++ x ∷ after → ((o : List ℕ) → IsNamed oid kid o → ⊥)
    → NoneIsNamed oid before → IsNamed oid x octets → IsFirstNamed oid rest octets
passed_in oid rest [] after kid x octets e none first named =
    let same : x ≡ kid = cc in
    absurd (none octets (subst (λ (k : DerElement). IsNamed oid k octets) same named))
passed_in oid rest (b ∷ before) after kid x octets e none first named =
    let are : rest ≡ before ++ x ∷ after = cc in
    record { before = before; extension = x; after = after; are = are; first = first.1; named = named }

pub first_passed : (oid : List ℕ) (all rest : List DerElement) (kid : DerElement)
    → all ≡ kid ∷ rest → ((octets : List ℕ) → IsNamed oid kid octets → ⊥) → (octets : List ℕ)
    → IsFirstNamed oid all octets → IsFirstNamed oid rest octets
first_passed oid all rest kid are none octets f = passed_in oid rest f.before f.after kid f.extension octets (sym are ∙ f.are) none f.first f.named

none_in : (before after : List DerElement) (x : DerElement) → [] ≡ before ++ x ∷ after → ⊥
none_in [] after x e = absurd cc
none_in (b ∷ before) after x e = absurd cc

pub none_first : (oid : List ℕ) (elements : List DerElement) (octets : List ℕ) → elements ≡ [] → IsFirstNamed oid elements octets → ⊥
none_first oid elements octets none f = none_in f.before f.after f.extension (sym none ∙ f.are)

-- ---- once

pub named_once : (oid : List ℕ) (element : DerElement) (v w : List ℕ) → IsNamed oid element v → IsNamed oid element w → v ≡ w
named_once oid element v w p q = (fields_once element (Primitive 0x06 oid) (Primitive 0x06 oid) p.0 q.0 v w p.1 q.1).2

once_in : (oid : List ℕ) (before before' after after' : List DerElement) (x y : DerElement) (v w : List ℕ) → before ++ x ∷ after ≡ before' ++ y ∷ after'
    → NoneIsNamed oid before → NoneIsNamed oid before' → IsNamed oid x v → IsNamed oid y w → v ≡ w
once_in oid [] [] after after' x y v w e f g p q =
    let same : x ≡ y = cc in
    named_once oid y v w (subst (λ (k : DerElement). IsNamed oid k v) same p) q
once_in oid [] (k ∷ before') after after' x y v w e f g p q =
    let same : x ≡ k = cc in
    absurd (g.0 v (subst (λ (m : DerElement). IsNamed oid m v) same p))
once_in oid (k ∷ before) [] after after' x y v w e f g p q =
    let same : y ≡ k = cc in
    absurd (f.0 w (subst (λ (m : DerElement). IsNamed oid m w) same q))
once_in oid (k ∷ before) (l ∷ before') after after' x y v w e f g p q =
    let rest : before ++ x ∷ after ≡ before' ++ y ∷ after' = cc in
    once_in oid before before' after after' x y v w rest f.1 g.1 p q

pub first_once : (oid : List ℕ) (elements : List DerElement) (v w : List ℕ) → IsFirstNamed oid elements v → IsFirstNamed oid elements w → v ≡ w
first_once oid elements v w p q = once_in oid p.before q.before p.after q.after p.extension q.extension v w (sym p.are ∙ q.are) p.first q.first p.named q.named

pub value_once : (f : CertificateElements) (oid : List ℕ) (a b : DerElement) → IsFirstValue f oid a → IsFirstValue f oid b → a ≡ b
value_once f oid a b p q =
    one_kept q.octets a b (subst (λ (o : List ℕ). IsKept o a) (first_once oid (extensions_of f) p.octets q.octets p.first q.first) p.holds) q.holds

-- ---- values

-- what the element says, the first extension says
pub said : {X R : Type 0} (now : R → X) (oid : List ℕ) (part : DerElement → X → Type 0) (f : CertificateElements) (element : DerElement) (r : Option R)
    → IsFirstValue f oid element
    → MatchOption r ((x : X) → part element x → ⊥) (λ x. part element (now x)) → MatchOption r ((x : X) → Says oid part f x → ⊥) (λ x. Says oid part f (now x))
said now oid part f element None first none = λ x says. none x (subst (λ (e : DerElement). part e x) (value_once f oid says.0 element says.1 first) says.2)
said now oid part f element (Some x) first says = (element, first, says)
