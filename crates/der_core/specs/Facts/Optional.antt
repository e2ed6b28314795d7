-- OPTIONAL fields: what holds of a value holds of one that may be absent, and each field is
-- recognised by its tag.
use Rattle.std.specs.Prelude.{◌≡◌, ⊤, ℕ, List, [], ◌++◌, Option, Some, None, refl, option_to_list}
use Rattle.std.proofs.Common.{ap, sym, subst}
use Rattle.std.specs.Option.{option_map}
use Rattle.der_core.specs.Each.{Prints}
use Rattle.der_core.specs.DerElement.{DerElement, row}
use Rattle.der_core.specs.Elements.{optional_explicit, optional_leaf}
use Rattle.der_core.specs.Encoding.{IsTag, IsWellFormed, AreWellFormed, form_bit}
use Rattle.der_core.specs.Optional.{SpellsOption, inner_option}
use Rattle.der_core.specs.Borrowed.{AreDer}
use Rattle.der_core.specs.Structure.{BeginsOtherwise}
use Rattle.der_core.specs.Facts.Fields.{IsField, split}

-- ---- values

pub option_once : {X : Type 0} (spells : DerElement → X → Type 0) → ((element : DerElement) (a b : X) → spells element a → spells element b → a ≡ b)
    → (element : Option DerElement) (a b : Option X) → SpellsOption spells element a → SpellsOption spells element b → a ≡ b
option_once spells once None None None p q = refl
option_once spells once None (Some x) b p q = absurd p
option_once spells once None None (Some y) p q = absurd q
option_once spells once (Some e) None b p q = absurd p
option_once spells once (Some e) (Some x) None p q = absurd q
option_once spells once (Some e) (Some x) (Some y) p q = ap Some (once e x y p q)

pub option_bounded : {X : Type 0} (spells : DerElement → X → Type 0) (inner : X → List DerElement)
    → ((element : DerElement) (value : X) → spells element value → AreDer (inner value))
    → (element : Option DerElement) (a : Option X) → SpellsOption spells element a → AreDer (inner_option inner a)
option_bounded spells inner bounded element None p = tt
option_bounded spells inner bounded None (Some x) p = absurd p
option_bounded spells inner bounded (Some e) (Some x) p = bounded e x p

pub option_spelled : {X : Type 0} (spells : DerElement → X → Type 0) (written : X → DerElement) (inner : X → List DerElement)
    → ((value : X) → AreDer (inner value) → spells (written value) value)
    → (a : Option X) → AreDer (inner_option inner a) → SpellsOption spells (option_map written a) a
option_spelled spells written inner spelled None der = tt
option_spelled spells written inner spelled (Some x) der = spelled x der

-- values with one encoding are determined by what is written
pub options_once : {X : Type 0} (written : X → DerElement) → ((a b : X) → written a ≡ written b → a ≡ b) → (a b : Option X)
    → option_map written a ≡ option_map written b → a ≡ b
options_once written one None None e = refl
options_once written one None (Some y) e = absurd cc
options_once written one (Some x) None e = absurd cc
options_once written one (Some x) (Some y) e = let same : written x ≡ written y = cc in ap Some (one x y same)

-- such a value is encoded by what is written for it
pub printed_option : {X : Type 0} (written : X → DerElement) (e : Option DerElement) (v : Option X) → SpellsOption (Prints written) e v
    → e ≡ option_map written v
printed_option written None None s = refl
printed_option written None (Some v) s = absurd s
printed_option written (Some e) None s = absurd s
printed_option written (Some e) (Some v) s = ap Some s

pub option_printed : {X : Type 0} (written : X → DerElement) (e : Option DerElement) (v : Option X) → e ≡ option_map written v
    → SpellsOption (Prints written) e v
option_printed written None None e = tt
option_printed written None (Some v) e = absurd cc
option_printed written (Some x) None e = absurd cc
option_printed written (Some x) (Some v) e = cc

-- a value that is present
pub some_spells : {X : Type 0} (spells : DerElement → X → Type 0) (e : Option DerElement) (element : DerElement) (value : X) → e ≡ Some element
    → spells element value → SpellsOption spells e (Some value)
some_spells spells e element value is s = subst (λ (o : Option DerElement). SpellsOption spells o (Some value)) (sym is) s

-- ---- elements

-- the element, if there is one, is well formed
abbrev pub IsFormedOption : Option DerElement → Type 0
IsFormedOption None = ⊤
IsFormedOption (Some element) = IsWellFormed element

pub option_formed : {X : Type 0} (written : X → DerElement) → ((value : X) → IsWellFormed (written value)) → (a : Option X)
    → IsFormedOption (option_map written a)
option_formed written formed None = tt
option_formed written formed (Some x) = formed x

pub kept_once : (a b : Option DerElement) → option_to_list a ≡ option_to_list b → a ≡ b
kept_once None None e = refl
kept_once None (Some y) e = absurd cc
kept_once (Some x) None e = absurd cc
kept_once (Some x) (Some y) e = let same : x ≡ y = cc in ap Some same

-- ---- fields under explicit tags

pub explicit_field : (tag : ℕ) (kid : Option DerElement) → IsField tag (optional_explicit tag kid)
explicit_field tag None = tt
explicit_field tag (Some kid) = refl

pub explicit_once : (tag : ℕ) (a b : Option DerElement) → optional_explicit tag a ≡ optional_explicit tag b → a ≡ b
explicit_once tag None None e = refl
explicit_once tag None (Some y) e = absurd cc
explicit_once tag (Some x) None e = absurd cc
explicit_once tag (Some x) (Some y) e = let same : x ≡ y = cc in ap Some same

explicit_none : (tag : ℕ) (kid : Option DerElement) → optional_explicit tag kid ≡ [] → kid ≡ None
explicit_none tag None e = refl
explicit_none tag (Some kid) e = absurd cc

-- the field that elements begin with is unambiguous
pub explicit_split : (tag : ℕ) (a b : Option DerElement) (xs ys : List DerElement) → (a ≡ None → BeginsOtherwise tag xs) → (b ≡ None → BeginsOtherwise tag ys)
    → optional_explicit tag a ++ xs ≡ optional_explicit tag b ++ ys → (a ≡ b) × (xs ≡ ys)
explicit_split tag a b xs ys f g e =
    let parts = split tag (optional_explicit tag a) (optional_explicit tag b) xs ys (explicit_field tag a) (explicit_field tag b)
    (λ none. f (explicit_none tag a none)) (λ none. g (explicit_none tag b none)) e in
    (explicit_once tag a b parts.0, parts.1)

pub explicit_formed : (tag : ℕ) (kid : Option DerElement) (rest : List DerElement) → IsTag tag → form_bit tag ≡ 1 → IsFormedOption kid
    → AreWellFormed (row rest) → AreWellFormed (row (optional_explicit tag kid ++ rest))
explicit_formed tag None rest is_tag form inside formed = formed
explicit_formed tag (Some kid) rest is_tag form inside formed = ((is_tag, form, (inside, tt)), formed)

-- such a field where it is the last
pub last_formed : (tag : ℕ) (kid : Option DerElement) → IsTag tag → form_bit tag ≡ 1 → IsFormedOption kid → AreWellFormed (row (optional_explicit tag kid))
last_formed tag None is_tag form inside = tt
last_formed tag (Some kid) is_tag form inside = ((is_tag, form, (inside, tt)), tt)

-- ---- primitive fields

pub leaf_field : (tag : ℕ) (content : Option (List ℕ)) → IsField tag (optional_leaf tag content)
leaf_field tag None = tt
leaf_field tag (Some content) = refl

pub leaf_once : (tag : ℕ) (a b : Option (List ℕ)) → optional_leaf tag a ≡ optional_leaf tag b → a ≡ b
leaf_once tag None None e = refl
leaf_once tag None (Some y) e = absurd cc
leaf_once tag (Some x) None e = absurd cc
leaf_once tag (Some x) (Some y) e = let same : x ≡ y = cc in ap Some same

leaf_none : (tag : ℕ) (content : Option (List ℕ)) → optional_leaf tag content ≡ [] → content ≡ None
leaf_none tag None e = refl
leaf_none tag (Some content) e = absurd cc

-- the field that elements begin with is unambiguous
pub leaf_split : (tag : ℕ) (a b : Option (List ℕ)) (xs ys : List DerElement) → (a ≡ None → BeginsOtherwise tag xs) → (b ≡ None → BeginsOtherwise tag ys)
    → optional_leaf tag a ++ xs ≡ optional_leaf tag b ++ ys → (a ≡ b) × (xs ≡ ys)
leaf_split tag a b xs ys f g e =
    let parts = split tag (optional_leaf tag a) (optional_leaf tag b) xs ys (leaf_field tag a) (leaf_field tag b) (λ none. f (leaf_none tag a none))
    (λ none. g (leaf_none tag b none)) e in
    (leaf_once tag a b parts.0, parts.1)

pub leaf_formed : (tag : ℕ) (content : Option (List ℕ)) (rest : List DerElement) → IsTag tag → form_bit tag ≡ 0 → AreWellFormed (row rest)
    → AreWellFormed (row (optional_leaf tag content ++ rest))
leaf_formed tag None rest is_tag form formed = formed
leaf_formed tag (Some content) rest is_tag form formed = ((is_tag, form), formed)
