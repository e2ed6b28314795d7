-- Elements have codes: an injective map into trees of numbers, by which proofs tell elements apart.
use Rattle.std.specs.Prelude.{◌≡◌, ℕ, List, refl}
use Rattle.std.proofs.Common.{◌∙◌, ap}
use Rattle.std.specs.Coded.{coded_list}
use base.Stored.{Coded, Gv, gnil, gnum, gcons, num, coded_ℕ}
use Rattle.der_core.specs.DerElement.{DerElement, Primitive, Constructed, DerElements, Nil, Cons}

abbrev front : Gv → Gv
front gnil = gnil
front (gnum n) = gnil
front (gcons a b) = a

abbrev back : Gv → Gv
back gnil = gnil
back (gnum n) = gnil
back (gcons a b) = b

abbrev pub octets_code : Coded (List ℕ)
octets_code = coded_list coded_ℕ

-- A primitive element is stored under 0, a constructed one under 1.
abbrev mutual
  pub stored : DerElement → Gv
  stored (Primitive tag content) = gcons (gnum 0) (gcons (gnum tag) (octets_code.code content))
  stored (Constructed tag kids) = gcons (gnum 1) (gcons (gnum tag) (stored_kids kids))

  pub stored_kids : DerElements → Gv
  stored_kids Nil = gnil
  stored_kids (Cons kid kids) = gcons (stored kid) (stored_kids kids)

mutual
  pub stored_inj : (a b : DerElement) → stored a ≡ stored b → a ≡ b
  stored_inj (Primitive s x) (Primitive t y) e =
      let same_tag : s ≡ t = ap (λ v. num (front (back v))) e in
      let same_content : x ≡ y = octets_code.inj x y (ap (λ v. back (back v)) e) in
      ap (λ n. Primitive n x) same_tag ∙ ap (Primitive t) same_content
  stored_inj (Constructed s x) (Constructed t y) e =
      let same_tag : s ≡ t = ap (λ v. num (front (back v))) e in
      let same_kids : x ≡ y = stored_kids_inj x y (ap (λ v. back (back v)) e) in
      ap (λ n. Constructed n x) same_tag ∙ ap (Constructed t) same_kids
  stored_inj (Primitive s x) (Constructed t y) e = absurd cc
  stored_inj (Constructed s x) (Primitive t y) e = absurd cc

  pub stored_kids_inj : (a b : DerElements) → stored_kids a ≡ stored_kids b → a ≡ b
  stored_kids_inj Nil Nil e = refl
  stored_kids_inj (Cons a as') (Cons b bs) e =
      let same_kid : a ≡ b = stored_inj a b (ap front e) in
      let same_kids : as' ≡ bs = stored_kids_inj as' bs (ap back e) in
      ap (λ k. Cons k as') same_kid ∙ ap (Cons b) same_kids
  stored_kids_inj Nil (Cons b bs) e = absurd cc
  stored_kids_inj (Cons a as') Nil e = absurd cc

abbrev pub coded_element : Coded DerElement
coded_element = record { code = stored; inj = stored_inj }
