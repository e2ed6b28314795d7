-- Basic constraints by their kids.
use Rattle.std.proofs.Common.{◌≡◌, ℕ, List, [], ◌∷◌, ◌++◌, Option, Some, None, refl, sym, ap, subst, ◌∙◌}
use Rattle.std.specs.Prelude.{Bool}
use Rattle.der_core.specs.DerElement.{DerElement, tag_of}
use Rattle.der_core.specs.Elements.{sequence}
use Rattle.der_core.specs.Default.{IsBoolean, HasBadFlag}
use Rattle.der_core.specs.Structure.{HasMore, BeginsOtherwise}
use Rattle.extension_types.specs.Boolean.{IsOptionalBoolean, TakesBoolean}
use Rattle.extension_types.specs.BasicConstraints.{optional_integer, IsBasicConstraints, HasBadLength, TakesLength}
use Rattle.der_core.specs.Facts.Grammars.{same_fields}
use Rattle.der_core.specs.Facts.Fields.{split}
use Rattle.extension_types.specs.Facts.Constraints.{optional_field, no_flag}
use Rattle.extension_types.specs.declared.basic_constraints.BasicConstraints.{BasicConstraints}

-- a BOOLEAN before other elements is that flag
pub boolean_taken : (all : List DerElement) (kid : DerElement) (rest : List DerElement) (b : Bool) → all ≡ kid ∷ rest → IsBoolean kid b
    → TakesBoolean all (Some b) rest
boolean_taken all kid rest b are is = record { flag = kid ∷ []; is = (kid, refl, is); are = are; once = λ e. absurd cc }

bad_in : (flag more : List DerElement) (b : Option Bool) (kid : DerElement) (rest : List DerElement) → kid ∷ rest ≡ flag ++ more → IsOptionalBoolean flag b
    → tag_of kid ≡ 0x01
    → ((c : Bool) → IsBoolean kid c → ⊥) → BeginsOtherwise 0x01 more → ⊥
bad_in flag more None kid rest e is tagged none other =
    let here : kid ∷ rest ≡ more = e ∙ ap (λ (f : List DerElement). f ++ more) is in
    subst (BeginsOtherwise 0x01) (sym here) other tagged
bad_in flag more (Some b) kid rest e is tagged none other =
    let here : kid ∷ rest ≡ is.0 ∷ more = e ∙ ap (λ (f : List DerElement). f ++ more) is.1 in
    let same : is.0 ≡ kid = cc in
    none b (subst (λ (k : DerElement). IsBoolean k b) same is.2)

-- no constraints have a bad flag
pub bad_flag : (element : DerElement) (kids : List DerElement) (b : BasicConstraints) → element ≡ sequence kids → HasBadFlag kids
    → IsBasicConstraints element b → ⊥
bad_flag element kids b holds bad is =
    bad_in is.flag (optional_integer b.pathlen) b.ca bad.kid bad.rest
    (sym bad.are ∙ same_fields kids (is.flag ++ optional_integer b.pathlen) (sym holds ∙ is.is)) is.flagged bad.tagged bad.none (no_flag b.pathlen)

-- what follows the flag is the path length
behind : (element : DerElement) (kids rest : List DerElement) (ca : Option Bool) (b : BasicConstraints) → element ≡ sequence kids → TakesBoolean kids ca rest
    → IsBasicConstraints element b → rest ≡ optional_integer b.pathlen
behind element kids rest ca b holds takes is =
    (split 0x01 takes.flag is.flag rest (optional_integer b.pathlen) (optional_field takes.flag ca takes.is) (optional_field is.flag b.ca is.flagged) takes.once
    (λ e. no_flag b.pathlen)
    (sym takes.are ∙ same_fields kids (is.flag ++ optional_integer b.pathlen) (sym holds ∙ is.is))).1
