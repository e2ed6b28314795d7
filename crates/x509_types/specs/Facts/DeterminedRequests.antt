-- Lists of extensions are determined by the kinds of their values and by what is written for them.
use Rattle.std.proofs.Common.{◌≡◌, ℕ, List, [], ◌∷◌, ◌++◌, map, flat_map, Some, refl, ap, sym, ◌∙◌}
use Rattle.der_core.specs.DerElement.{DerElement, Constructed, row, listed}
use Rattle.der_core.specs.Each.{list_element}
use Rattle.der_core.specs.Facts.Grammars.{same_fields}
use Rattle.der_core.specs.Facts.Rows.{listed-row}
use Rattle.x509_types.specs.Extension.{extension, value_kinds}
use Rattle.x509_types.specs.TbsCertificate.{extensions}
use Rattle.x509_types.specs.Facts.DeterminedExtensions.{number_of, AreSmall, lists_determined, small_list}
use Rattle.x509_types.specs.declared.extension.Extension.{Extension}

abbrev pub kinds_of : List (List Extension) → List ℕ
kinds_of requests = flat_map (λ (request : List Extension). value_kinds (Some request)) requests

-- if the same is written for two lists of extensions, they have equally many kinds
pub split_kinds : (x y : List Extension) (r s : List ℕ) → map extension x ≡ map extension y → map number_of x ++ r ≡ map number_of y ++ s
    → (map number_of x ≡ map number_of y) × (r ≡ s)
split_kinds [] [] r s w e = (refl, e)
split_kinds [] (b ∷ y) r s w e = absurd cc
split_kinds (a ∷ x) [] r s w e = absurd cc
split_kinds (a ∷ x) (b ∷ y) r s w e =
    let others : map extension x ≡ map extension y = cc in
    let kind : number_of a ≡ number_of b = cc in
    let kinds : map number_of x ++ r ≡ map number_of y ++ s = cc in
    let parts = split_kinds x y r s others kinds in
    (ap (λ n. n ∷ map number_of x) kind ∙ ap (λ ns. number_of b ∷ ns) parts.0, parts.1)

each_determined : (a b : List (List Extension)) → kinds_of a ≡ kinds_of b → map extensions a ≡ map extensions b → a ≡ b
each_determined [] [] k e = refl
each_determined [] (y ∷ b) k e = absurd cc
each_determined (x ∷ a) [] k e = absurd cc
each_determined (x ∷ a) (y ∷ b) k e =
    let first : extensions x ≡ extensions y = cc in
    let others : map extensions a ≡ map extensions b = cc in
    let written = same_fields (map extension x) (map extension y) first in
    let parts = split_kinds x y (kinds_of a) (kinds_of b) written k in
    ap (λ v. v ∷ a) (lists_determined x y parts.0 written) ∙ ap (λ vs. y ∷ vs) (each_determined a b parts.1 others)

-- sets are the same only if their members are
pub same_members : (kids kids' : List DerElement) → Constructed 0x31 (row kids) ≡ Constructed 0x31 (row kids') → kids ≡ kids'
same_members kids kids' e =
    let same : row kids ≡ row kids' = cc in
    sym (listed-row kids) ∙ ap listed same ∙ listed-row kids'

pub requests_determined : (a b : List (List Extension)) → kinds_of a ≡ kinds_of b → list_element 0x31 extensions a ≡ list_element 0x31 extensions b → a ≡ b
requests_determined a b k e = each_determined a b k (same_members (map extensions a) (map extensions b) e)

-- ---- the kinds end where an element begins

pub small_append : (ks ls : List ℕ) → AreSmall ks → AreSmall ls → AreSmall (ks ++ ls)
small_append [] ls f g = g
small_append (k ∷ ks) ls f g = (f.0, small_append ks ls f.1 g)

pub small_requests : (requests : List (List Extension)) → AreSmall (kinds_of requests)
small_requests [] = tt
small_requests (x ∷ requests) = small_append (map number_of x) (kinds_of requests) (small_list x) (small_requests requests)
