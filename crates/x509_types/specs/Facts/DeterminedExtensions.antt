-- Extensions are determined by the kinds of their values and by what is written for them.
use Rattle.std.proofs.Common.{◌≡◌, ℕ, ◌<◌, List, [], ◌∷◌, ◌++◌, map, Option, Some, None, refl, ap, ◌∙◌, arith}
use Rattle.std.specs.Prelude.{⊤, ◌↔◌, IsTrue, Bool, bytes_eq}
use Rattle.std.specs.Option.{option_map}
use Rattle.std.proofs.lemmas.Slice.Eq.{bytes_eq-Decides}
use Rattle.der_core.specs.DerElement.{DerElements, Constructed}
use Rattle.der_core.specs.Encoding.{encoding}
use Rattle.der_core.specs.Each.{list_element}
use Rattle.der_core.specs.Facts.Equality.{same_tests}
use Rattle.der_core.specs.Facts.Grammars.{same_fields}
use Rattle.x509_types.specs.ExtensionView.{extension_kind_number, kind_of_view}
use Rattle.x509_types.specs.Extension.{extension, value_kinds}
use Rattle.x509_types.specs.Facts.ExtensionViews.{kinds_by_number, small_kind}
use Rattle.x509_types.specs.Facts.Extensions.{extensions_determined}
use Rattle.x509_types.specs.declared.extension.Extension.{Extension}

-- ---- extensions by their kinds and elements

abbrev pub number_of : Extension → ℕ
number_of e = extension_kind_number (kind_of_view e.extn_value)

pub lists_determined : (a b : List Extension) → map number_of a ≡ map number_of b → map extension a ≡ map extension b → a ≡ b
lists_determined [] [] k e = refl
lists_determined [] (y ∷ b) k e = absurd cc
lists_determined (x ∷ a) [] k e = absurd cc
lists_determined (x ∷ a) (y ∷ b) k e =
    let kind : number_of x ≡ number_of y = cc in
    let kinds : map number_of a ≡ map number_of b = cc in
    let first : extension x ≡ extension y = cc in
    let others : map extension a ≡ map extension b = cc in
    ap (λ v. v ∷ a) (extensions_determined x y (kinds_by_number (kind_of_view x.extn_value) (kind_of_view y.extn_value) kind) first)
    ∙ ap (λ vs. y ∷ vs) (lists_determined a b kinds others)

pub options_determined : (a b : Option (List Extension)) → value_kinds a ≡ value_kinds b
    → option_map (list_element 0x30 extension) a ≡ option_map (list_element 0x30 extension) b → a ≡ b
options_determined None None k e = refl
options_determined None (Some y) k e = absurd cc
options_determined (Some x) None k e = absurd cc
options_determined (Some x) (Some y) k e =
    let same : list_element 0x30 extension x ≡ list_element 0x30 extension y = cc in
    ap Some (lists_determined x y k (same_fields (map extension x) (map extension y) same))

-- ---- the kinds end where an element begins

abbrev pub AreSmall : List ℕ → Type 0
AreSmall [] = ⊤
AreSmall (k ∷ ks) = (k < 48) × AreSmall ks

pub small_list : (es : List Extension) → AreSmall (map number_of es)
small_list [] = tt
small_list (e ∷ es) = (small_kind (kind_of_view e.extn_value), small_list es)

small_kinds : (es : Option (List Extension)) → AreSmall (value_kinds es)
small_kinds None = tt
small_kinds (Some es) = small_list es

pub split_before : (tag : ℕ) → 47 < tag → (ks ls x y r s : List ℕ) → x ≡ tag ∷ r → y ≡ tag ∷ s → AreSmall ks → AreSmall ls → ks ++ x ≡ ls ++ y
    → (ks ≡ ls) × (x ≡ y)
split_before tag high [] [] x y r s p q f g e = (refl, e)
split_before tag high [] (l ∷ ls) x y r s p q f g e = let first : tag ≡ l = cc in absurd (omega (arith, first, g.0, high))
split_before tag high (k ∷ ks) [] x y r s p q f g e = let first : k ≡ tag = cc in absurd (omega (arith, first, f.0, high))
split_before tag high (k ∷ ks) (l ∷ ls) x y r s p q f g e =
    let first : k ≡ l = cc in
    let others : ks ++ x ≡ ls ++ y = cc in
    let parts = split_before tag high ks ls x y r s p q f.1 g.1 others in
    (ap (λ n. n ∷ ks) first ∙ ap (λ ns. l ∷ ns) parts.0, parts.1)

pub kinds_and_octets : (x y : Option (List Extension)) (ks ls : DerElements)
    → value_kinds x ++ encoding (Constructed 0x30 ks) ≡ value_kinds y ++ encoding (Constructed 0x30 ls)
    → (value_kinds x ≡ value_kinds y) × (encoding (Constructed 0x30 ks) ≡ encoding (Constructed 0x30 ls))
kinds_and_octets x y ks ls e = split_before 0x30 (omega arith) (value_kinds x) (value_kinds y) _ _ _ _ refl refl (small_kinds x) (small_kinds y) e

-- A test that holds exactly if two values are the same compares the octets that determine them.
pub decided_by_octets : {X : Type 0} (octets : X → List ℕ) → ((a b : X) → octets a ≡ octets b → a ≡ b)
    → (a b : X) (test : Bool) → (IsTrue test ↔ (a ≡ b)) → test ≡ bytes_eq (octets a) (octets b)
decided_by_octets {X} octets one a b test same =
    let decides = bytes_eq-Decides (octets a) (octets b) in
    same_tests test (bytes_eq (octets a) (octets b)) same (λ w. one a b (decides.0 w), λ e. decides.1 (ap (λ (v : X). octets v) e))
