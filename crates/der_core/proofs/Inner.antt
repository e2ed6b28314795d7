-- Elements wrapped in strings of a value: those of a part are among those of the whole.
use Rattle.std.proofs.Common.{◌≡◌, List, [], ◌∷◌, ◌++◌, refl, sym, ◌∙◌, ap, subst, append_assoc, append-nil}
use Rattle.der_core.specs.DerElement.{DerElement}
use Rattle.der_core.specs.declared.error.DerError.{DerError}
use Rattle.der_core.specs.declared.error.DerError.TheVariants as errors
use Rattle.der_core.specs.Borrowed.{AreDer}
use Rattle.der_core.specs.Facts.Grammars.{AreDer-append}
use Rattle.der_core.specs.Refusals.{IsFirstUnwritable, RefusesInner}
use Rattle.der_core.specs.Writing.{RefusesToWrite}

first_among : (before inner after : List DerElement) (e : DerError) → AreDer before → IsFirstUnwritable inner e
    → IsFirstUnwritable (before ++ (inner ++ after)) e
first_among before inner after e der (b, element, a, parts, der', refused) =
    let inside : inner ++ after ≡ b ++ element ∷ (a ++ after) = ap (λ i. i ++ after) parts ∙ append_assoc b (element ∷ a) after in
    let whole : before ++ (inner ++ after) ≡ (before ++ b) ++ element ∷ (a ++ after) = ap (λ i. before ++ i) inside
    ∙ sym (append_assoc before b (element ∷ (a ++ after))) in
    (before ++ b, element, a ++ after, whole, AreDer-append before b der der', refused)

-- what prevents a part from being written prevents the whole, if all before it can be written
pub refuses_among : (before inner after : List DerElement) (e : DerError) → AreDer before → RefusesInner inner e → RefusesInner (before ++ (inner ++ after)) e
refuses_among before inner after errors.TooDeep der refused = first_among before inner after errors.TooDeep der refused
refuses_among before inner after errors.TooLong der refused = first_among before inner after errors.TooLong der refused
refuses_among before inner after errors.Memory der refused = tt
refuses_among before inner after (errors.Malformed malformed) der refused = refused
refuses_among before inner after errors.Shape der refused = refused

-- one element that can't be written is the first of itself
pub refuses_alone : (element : DerElement) (e : DerError) → RefusesToWrite element e → RefusesInner (element ∷ []) e
refuses_alone element errors.TooDeep refused = ([], element, [], refl, tt, refused)
refuses_alone element errors.TooLong refused = ([], element, [], refl, tt, refused)
refuses_alone element errors.Memory refused = tt
refuses_alone element (errors.Malformed malformed) refused = refused
refuses_alone element errors.Shape refused = refused

-- what prevents the elements before from being written prevents them all
pub refuses_before : (inner after : List DerElement) (e : DerError) → RefusesInner inner e → RefusesInner (inner ++ after) e
refuses_before inner after e refused = refuses_among [] inner after e tt refused

-- what prevents the last from being written prevents them all
pub refuses_last : (before inner : List DerElement) (e : DerError) → AreDer before → RefusesInner inner e → RefusesInner (before ++ inner) e
refuses_last before inner e der refused =
    subst (λ i. RefusesInner (before ++ i) e) (append-nil inner) (refuses_among before inner [] e der refused)
