-- Parts of the values of extensions, by the elements in them.
use Rattle.std.proofs.Common.{◌≡◌, ◌≢◌, ℕ, List, [], ◌∷◌, ◌++◌, Option, Some, None, MatchOption, sym, ap, subst, ◌∙◌, arith}
use Rattle.std.specs.Prelude.{Bool}
use Rattle.der_core.specs.DerElement.{DerElement, tag_of}
use Rattle.der_core.specs.Elements.{sequence}
use Rattle.der_core.specs.Default.{IsBoolean, IsDefaultFalse, HasBadFlag, TakesDefault}
use Rattle.der_core.specs.Structure.{BeginsOtherwise, HasMore}
use Rattle.der_core.specs.Facts.Fields.{split}
use Rattle.der_core.specs.Facts.Grammars.{same_fields}
use Rattle.extension_types.specs.BasicConstraints.{small_integer}
use Rattle.extension_types.specs.Facts.Constraints.{default_field}
use Rattle.x509_types.specs.ExtensionParts.{HasFirstElement, EndsWithLength}

-- an empty sequence begins with nothing
pub none_begins : {X : Type 0} (part : DerElement → X → Type 0) (element : DerElement) (all : List DerElement) (x : X) → element ≡ sequence all → all ≡ []
    → HasFirstElement part element x → ⊥
none_begins part element all x holds none b =
    let kids : [] ≡ b.kid ∷ b.kids = sym none ∙ same_fields all (b.kid ∷ b.kids) (sym holds ∙ b.is) in
    absurd cc

-- what the first element says, the sequence begins with
pub begins : {X R : Type 0} (now : R → X) (part : DerElement → X → Type 0) (element kid : DerElement) (all rest : List DerElement) (r : Option R)
    → element ≡ sequence all → all ≡ kid ∷ rest
    → MatchOption r ((x : X) → part kid x → ⊥) (λ x. part kid (now x))
    → MatchOption r ((x : X) → HasFirstElement part element x → ⊥) (λ x. HasFirstElement part element (now x))
begins now part element kid all rest None holds are none = λ x b.
    let kids : kid ∷ rest ≡ b.kid ∷ b.kids = sym are ∙ same_fields all (b.kid ∷ b.kids) (sym holds ∙ b.is) in
    let first : b.kid ≡ kid = cc in
    none x (subst (λ (k : DerElement). part k x) first b.says)
begins now part element kid all rest (Some x) holds are says = record { kid = kid; kids = rest; is = holds ∙ ap sequence are; says = says }

-- ---- path lengths

bad_in : (flag more : List DerElement) (b : Bool) (kid : DerElement) (rest : List DerElement) → kid ∷ rest ≡ flag ++ more → IsDefaultFalse flag b
    → tag_of kid ≡ 0x01
    → ((c : Bool) → IsBoolean kid c → ⊥) → BeginsOtherwise 0x01 more → ⊥
bad_in [] more b kid rest e is tagged none other = subst (BeginsOtherwise 0x01) (sym e) other tagged
bad_in (k ∷ []) more b kid rest e is tagged none other =
    let same : k ≡ kid = cc in
    none b (subst (λ (x : DerElement). IsBoolean x b) same is)
bad_in (k ∷ m ∷ ks) more b kid rest e is tagged none other = is

no_flag : (number : ℕ) → BeginsOtherwise 0x01 (small_integer number ∷ [])
no_flag number = λ e. omega (arith, e)

-- no path length follows a bad flag
pub bad_flag : (element : DerElement) (all : List DerElement) (number : ℕ) → element ≡ sequence all → HasBadFlag all → EndsWithLength element number → ⊥
bad_flag element all number holds bad l =
    bad_in l.flag (small_integer number ∷ []) l.ca bad.kid bad.rest (sym bad.are ∙ same_fields all (l.flag ++ small_integer number ∷ []) (sym holds ∙ l.is))
    l.flagged bad.tagged bad.none (no_flag number)

-- only the path length follows the flag
pub behind_flag : (element : DerElement) (all rest : List DerElement) (b : Bool) (number : ℕ) → element ≡ sequence all → TakesDefault all b rest
    → EndsWithLength element number → rest ≡ small_integer number ∷ []
behind_flag element all rest b number holds takes l =
    (split 0x01 takes.flag l.flag rest (small_integer number ∷ []) (default_field takes.flag b takes.is) (default_field l.flag l.ca l.flagged) takes.once
    (λ e. no_flag number)
    (sym takes.are ∙ same_fields all (l.flag ++ small_integer number ∷ []) (sym holds ∙ l.is))).1

pub no_length : (element : DerElement) (all rest : List DerElement) (b : Bool) (number : ℕ) → element ≡ sequence all → TakesDefault all b rest → rest ≡ []
    → EndsWithLength element number → ⊥
no_length element all rest b number holds takes none l =
    let one : rest ≡ small_integer number ∷ [] = behind_flag element all rest b number holds takes l in
    absurd cc

pub more_lengths : (element last : DerElement) (all rest others : List DerElement) (b : Bool) (number : ℕ) → element ≡ sequence all → TakesDefault all b rest
    → rest ≡ last ∷ others → HasMore others → EndsWithLength element number → ⊥
more_lengths element last all rest others b number holds takes are more l =
    let one : last ∷ others ≡ small_integer number ∷ [] = sym are ∙ behind_flag element all rest b number holds takes l in
    let none : others ≡ [] = cc in
    let kids : more.kid ∷ more.rest ≡ [] = sym more.are ∙ none in
    absurd cc

pub ends : (element last : DerElement) (all rest others : List DerElement) (b : Bool) (r : Option ℕ) → element ≡ sequence all → TakesDefault all b rest
    → rest ≡ last ∷ others → others ≡ []
    → MatchOption r ((number : ℕ) → last ≢ small_integer number) (λ number. last ≡ small_integer number)
    → MatchOption r ((number : ℕ) → EndsWithLength element number → ⊥) (λ number. EndsWithLength element number)
ends element last all rest others b None holds takes are none unread = λ number l.
    let one : last ∷ others ≡ small_integer number ∷ [] = sym are ∙ behind_flag element all rest b number holds takes l in
    let same : last ≡ small_integer number = cc in
    unread number same
ends element last all rest others b (Some number) holds takes are none read = record {
  flag = takes.flag;
  ca = b;
  flagged = takes.is;
  is = holds ∙ ap sequence (takes.are ∙ ap (λ (r : List DerElement). takes.flag ++ r) (are ∙ ap (λ (k : DerElement). k ∷ others) read
      ∙ ap (λ (ks : List DerElement). small_integer number ∷ ks) none));
}
