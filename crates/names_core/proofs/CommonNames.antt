-- The first common name of a name, set by set.
use Rattle.name_types.specs.declared.attribute.AttributeTypeAndValue.{AttributeTypeAndValue}
use Rattle.std.proofs.Common.{◌≡◌, true, false, List, [], ◌∷◌, ◌++◌, Some, None, refl, sym, ap, ◌∙◌, Bor}
use Rattle.std.specs.Prelude.{Option, flat_map, filter_map}
use Rattle.std.specs.List.{slice_get}
use Rattle.std.specs.Option.{option_copied, option_or, is_some}
use Rattle.std.proofs.lemmas.List.Elements.{filter_map-append}
use Rattle.names_core.specs.DirectoryName.{common_name_of, common_names, first_common_name}

first_of_two : {X : Type 0} (xs ys : List X) → slice_get (xs ++ ys) 0 ≡ option_or (slice_get xs 0) (slice_get ys 0)
first_of_two [] ys = refl
first_of_two (x ∷ xs) ys = refl

set_first : (set : List AttributeTypeAndValue) (others rest : List (List AttributeTypeAndValue)) → rest ≡ set ∷ others
    → first_common_name rest ≡ option_or (slice_get (filter_map common_name_of set) 0) (first_common_name others)
set_first set others rest parts =
    ap first_common_name parts
    ∙ ap (λ names. slice_get names 0) (filter_map-append common_name_of set (flat_map (λ members. members) others))
    ∙ first_of_two (filter_map common_name_of set) (common_names others)

some_first : {X : Type 0} (found : Option (Bor X)) (first later : Option X) → option_copied found ≡ first → is_some found ≡ true
    → option_copied found ≡ option_or first later
some_first None first later e some = absurd (false_true some)
  where
    false_true : false ≡ true → ⊥
    false_true e = let f = e in cc
some_first (Some x) first later e some = ap (λ o. option_or o later) e

none_first : {X : Type 0} (found : Option (Bor X)) (first later : Option X) → option_copied found ≡ first → is_some found ≡ false
    → later ≡ option_or first later
none_first None first later e none = ap (λ o. option_or o later) e
none_first (Some x) first later e none = absurd (true_false none)
  where
    true_false : true ≡ false → ⊥
    true_false e = let f = e in cc

-- what the first set has
pub found_here : (set : List AttributeTypeAndValue) (others rest : List (List AttributeTypeAndValue)) (found : _) → rest ≡ set ∷ others
    → option_copied found ≡ slice_get (filter_map common_name_of set) 0 → is_some found ≡ true → option_copied found ≡ first_common_name rest
found_here set others rest found parts here some =
    some_first found _ (first_common_name others) here some ∙ sym (set_first set others rest parts)

-- if it has none, what the others have
pub found_later : (set : List AttributeTypeAndValue) (others rest : List (List AttributeTypeAndValue)) (found : _) → rest ≡ set ∷ others
    → option_copied found ≡ slice_get (filter_map common_name_of set) 0 → is_some found ≡ false → first_common_name others ≡ first_common_name rest
found_later set others rest found parts here none =
    none_first found _ (first_common_name others) here none ∙ sym (set_first set others rest parts)
