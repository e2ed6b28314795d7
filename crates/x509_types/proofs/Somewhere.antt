-- One of some elements is such: here, later, or nowhere.
use Rattle.std.proofs.Common.{◌≡◌, List, [], ◌∷◌, ◌++◌, sym, ap, subst, ◌∙◌}
use Rattle.der_core.specs.DerElement.{DerElement}
use Rattle.x509_types.specs.Purposes.{HasSome}

pub some_here : (Is : DerElement → Type 0) (all rest : List DerElement) (kid : DerElement) → all ≡ kid ∷ rest → Is kid → HasSome Is all
some_here Is all rest kid are is = record { before = []; element = kid; after = rest; are = are; is = is }

pub some_later : (Is : DerElement → Type 0) (all rest : List DerElement) (kid : DerElement) → all ≡ kid ∷ rest → HasSome Is rest → HasSome Is all
some_later Is all rest kid are s = record {
  before = kid ∷ s.before;
  element = s.element;
  after = s.after;
  are = are ∙ ap (λ (r : List DerElement). kid ∷ r) s.are;
  is = s.is;
}

passed_in : (Is : DerElement → Type 0) (rest before after : List DerElement) (kid x : DerElement) → kid ∷ rest ≡ before ++ x ∷ after → (Is kid → ⊥) → Is x
    → HasSome Is rest
passed_in Is rest [] after kid x e none is =
    let same : x ≡ kid = cc in
    absurd (none (subst Is same is))
passed_in Is rest (b ∷ before) after kid x e none is =
    let are : rest ≡ before ++ x ∷ after = cc in
    record { before = before; element = x; after = after; are = are; is = is }

pub some_passed : (Is : DerElement → Type 0) (all rest : List DerElement) (kid : DerElement) → all ≡ kid ∷ rest → (Is kid → ⊥) → HasSome Is all
    → HasSome Is rest
some_passed Is all rest kid are none s = passed_in Is rest s.before s.after kid s.element (sym are ∙ s.are) none s.is

none_in : (before after : List DerElement) (x : DerElement) → [] ≡ before ++ x ∷ after → ⊥
none_in [] after x e = absurd cc
none_in (b ∷ before) after x e = absurd cc

pub none_there : (Is : DerElement → Type 0) (all : List DerElement) → all ≡ [] → HasSome Is all → ⊥
none_there Is all none s = none_in s.before s.after s.element (sym none ∙ s.are)
