-- Elements that may be absent are recognised by their tags.
use Rattle.std.specs.Prelude.{◌≡◌, ⊤, ℕ, List, [], ◌∷◌, ◌++◌, refl}
use Rattle.std.proofs.Common.{sym, ap, subst}
use Rattle.der_core.specs.DerElement.{DerElement, tag_of}
use Rattle.der_core.specs.Structure.{BeginsOtherwise}

-- no element, or one of the tag
abbrev pub IsField : ℕ → List DerElement → Type 0
IsField tag [] = ⊤
IsField tag (kid ∷ []) = tag_of kid ≡ tag
IsField tag (kid ∷ more ∷ kids) = ⊥

begins_with : (tag : ℕ) (kids : List DerElement) (kid : DerElement) (rest : List DerElement) → kids ≡ kid ∷ rest → BeginsOtherwise tag kids
    → tag_of kid ≡ tag → ⊥
begins_with tag kids kid rest e other is = subst (BeginsOtherwise tag) e other is

-- the field of the tag that elements begin with is unambiguous
pub split : (tag : ℕ) (a b xs ys : List DerElement) → IsField tag a → IsField tag b → (a ≡ [] → BeginsOtherwise tag xs) → (b ≡ [] → BeginsOtherwise tag ys)
    → a ++ xs ≡ b ++ ys → (a ≡ b) × (xs ≡ ys)
split tag [] [] xs ys f g p q e = (refl, e)
split tag [] (l ∷ []) xs ys f g p q e = absurd (begins_with tag xs l ys e (p refl) g)
split tag [] (l ∷ m ∷ ls) xs ys f g p q e = absurd g
split tag (k ∷ []) [] xs ys f g p q e = absurd (begins_with tag ys k xs (sym e) (q refl) f)
split tag (k ∷ []) (l ∷ []) xs ys f g p q e =
    let first : k ≡ l = cc in
    let rest : xs ≡ ys = cc in
    (ap (λ (x : DerElement). x ∷ []) first, rest)
split tag (k ∷ []) (l ∷ m ∷ ls) xs ys f g p q e = absurd g
split tag (k ∷ m ∷ ks) b xs ys f g p q e = absurd f
