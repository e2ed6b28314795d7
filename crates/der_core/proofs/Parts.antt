-- Elements by their kids: what is known of an element whose kids were read.
use Rattle.std.proofs.Common.{◌++◌, Result, Ok, Err, OnOk, OnErr, subst, ℕ, ◌≡◌, ◌≢◌, refl, List, [], ◌∷◌, None, sym, ◌∙◌, ap}
use Rattle.der_core.specs.DerElement.{DerElement, Primitive, Constructed, DerElements, row, listed, kids_of}
use Rattle.der_core.specs.Facts.Rows.{listed-row}
use Rattle.der_core.specs.Encoding.{IsWellFormed, AreWellFormed}
use Rattle.der_core.specs.Refusals.{RefusesShape}
use Rattle.der_core.specs.Structure.{HasMore}
use Rattle.der_core.specs.declared.error.DerError.{DerError}
use Rattle.der_core.specs.declared.error.DerError.TheVariants as errors

-- an element without kids is not constructed
pub without_kids : (t : DerElement) → kids_of t ≡ None → (tag : _) (kids : DerElements) → t ≢ Constructed tag kids
without_kids (Primitive tag content) e tag' kids same = absurd cc
without_kids (Constructed tag ks) e tag' kids same = absurd cc

-- a non-empty list of elements has a first
pub has_more : (kids : List DerElement) → (kids ≡ [] → ⊥) → HasMore kids
has_more [] none = absurd (none refl)
has_more (kid ∷ kids) none = record { kid = kid; rest = kids; are = refl }

-- a refusal of the shape of one thing is one of another, if this has no value whenever that has
-- none
pub refuses_as : {X Y : Type 0} (P : X → Type 0) (Q : Y → Type 0) (e : DerError) → (((x : X) → P x → ⊥) → (y : Y) → Q y → ⊥) → RefusesShape P e
    → RefusesShape Q e
refuses_as P Q errors.Shape none refused = none refused
refuses_as P Q errors.Memory none refused = tt
refuses_as P Q (errors.Malformed malformed) none refused = absurd refused
refuses_as P Q errors.TooDeep none refused = absurd refused
refuses_as P Q errors.TooLong none refused = absurd refused

-- elements are the same only if their kids are
pub same_kids : (t : DerElement) (tag tag' : ℕ) (kids kids' : List DerElement) → t ≡ Constructed tag (row kids) → t ≡ Constructed tag' (row kids')
    → kids ≡ kids'
same_kids t tag tag' kids kids' is is' =
    let same : row kids ≡ row kids' = cc in
    sym (listed-row kids) ∙ ap listed same ∙ listed-row kids'

well_formed-append : (kids : List DerElement) (kid : DerElement) → AreWellFormed (row kids) → IsWellFormed kid → AreWellFormed (row (kids ++ kid ∷ []))
well_formed-append [] kid formed one = (one, tt)
well_formed-append (k ∷ kids) kid formed one = (formed.0, well_formed-append kids kid formed.1 one)

-- one more well-formed element, or as many as before
pub well_formed_more : {E : Type 0} (old new : List DerElement) (kid : DerElement) (r : Result (Unit {0}) E) → OnOk r (new ≡ old ++ kid ∷ [])
    → OnErr r (new ≡ old)
    → AreWellFormed (row old) → IsWellFormed kid → AreWellFormed (row new)
well_formed_more old new kid (Ok done) ok err formed one = subst (λ ks. AreWellFormed (row ks)) (sym ok) (well_formed-append old kid formed one)
well_formed_more old new kid (Err e) ok err formed one = subst (λ ks. AreWellFormed (row ks)) (sym err) formed
