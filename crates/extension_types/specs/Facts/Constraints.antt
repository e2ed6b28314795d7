-- Basic constraints: different ones have different elements, each well formed and within limits.
use Rattle.std.proofs.Common.{◌≡◌, ◌≢◌, ◌⊎◌, inl, inr, ℕ, zero, suc, List, [], ◌∷◌, ◌++◌, Option, Some, None, refl, ap, sym, subst, ◌∙◌, arith}
use Rattle.std.specs.Prelude.{Bool, true, false, not, ◌==◌, nat_lt, if◌then◌else◌}
use Rattle.std.proofs.lemmas.Bool.{cases_eq, ne_eqb}
use Rattle.der_core.specs.DerElement.{DerElement, Primitive, tag_of}
use Rattle.der_core.specs.Encoding.{IsDer, IsShort, IsWellFormed, length_octets}
use Rattle.der_core.specs.Elements.{sequence}
use Rattle.der_core.specs.Borrowed.{contents_octets}
use Rattle.der_core.specs.Default.{IsBoolean, IsDefaultFalse, boolean, default_false}
use Rattle.der_core.specs.Structure.{IsGrammar, BeginsOtherwise}
use Rattle.extension_types.specs.Boolean.{optional_boolean, IsOptionalBoolean}
use Rattle.extension_types.specs.BasicConstraints.{small_integer, optional_integer, basic_constraints, IsBasicConstraints, HasOtherTrue}
use Rattle.der_core.specs.Facts.Grammars.{same_fields}
use Rattle.der_core.specs.Facts.Fields.{IsField, split}
use Rattle.extension_types.specs.declared.basic_constraints.BasicConstraints.{BasicConstraints}

-- ---- flags

pub boolean_is : (b : Bool) → IsBoolean (boolean b) b
boolean_is true = (255, refl, refl)
boolean_is false = (0, refl, refl)

pub optional_is : (b : Option Bool) → IsOptionalBoolean (optional_boolean b) b
optional_is None = refl
optional_is (Some b) = (boolean b, refl, boolean_is b)

pub default_is : (b : Bool) → IsDefaultFalse (default_false b) b
default_is true = boolean_is true
default_is false = refl

pub optional_field : (flag : List DerElement) (b : Option Bool) → IsOptionalBoolean flag b → IsField 0x01 flag
optional_field flag None is = subst (IsField 0x01) (sym is) tt
optional_field flag (Some b) is = subst (IsField 0x01) (sym is.1) (ap tag_of is.2.1)

pub default_field : (flag : List DerElement) (b : Bool) → IsDefaultFalse flag b → IsField 0x01 flag
default_field [] b is = tt
default_field (kid ∷ []) b is = ap tag_of is.1
default_field (kid ∷ more ∷ kids) b is = absurd is

-- a BOOLEAN encodes one flag
pub boolean_once : (element : DerElement) (b c : Bool) → IsBoolean element b → IsBoolean element c → b ≡ c
boolean_once element b c p q =
    let octets : p.0 ≡ q.0 = cc (p.1, q.1) in
    p.2 ∙ ap (λ (o : ℕ). not (o == 0)) octets ∙ sym q.2

pub optional_once : (flag : List DerElement) (b c : Option Bool) → IsOptionalBoolean flag b → IsOptionalBoolean flag c → b ≡ c
optional_once flag None None p q = refl
optional_once flag None (Some c) p q = absurd cc (p, q.1)
optional_once flag (Some b) None p q = absurd cc (q, p.1)
optional_once flag (Some b) (Some c) p q =
    let kids : p.0 ≡ q.0 = cc (p.1, q.1) in
    ap Some (boolean_once q.0 b c (subst (λ (k : DerElement). IsBoolean k b) kids p.2) q.2)

pub default_once : (flag : List DerElement) (b c : Bool) → IsDefaultFalse flag b → IsDefaultFalse flag c → b ≡ c
default_once [] b c p q = p ∙ sym q
default_once (kid ∷ []) b c p q = boolean_once kid b c p q
default_once (kid ∷ more ∷ kids) b c p q = absurd p

boolean_formed : (b : Bool) → IsWellFormed (boolean b)
boolean_formed b = ((omega arith, omega arith, omega arith), refl)

-- ---- path lengths

pub no_flag : (number : Option ℕ) → BeginsOtherwise 0x01 (optional_integer number)
no_flag None = tt
no_flag (Some number) = λ e. omega (arith, e)

abbrev last_octet : List ℕ → ℕ
last_octet [] = 0
last_octet (octet ∷ []) = octet
last_octet (first ∷ second ∷ octets) = second

last_of : (low : Bool) (number : ℕ) → last_octet (if low then number ∷ [] else 0 ∷ number ∷ []) ≡ number
last_of true number = refl
last_of false number = refl

pub integer_once : (m n : ℕ) → small_integer m ≡ small_integer n → m ≡ n
integer_once m n e = sym (last_of (nat_lt m 128) m) ∙ ap (λ (x : DerElement). last_octet (contents_octets x)) e ∙ last_of (nat_lt n 128) n

pub lengths_once : (m n : Option ℕ) → optional_integer m ≡ optional_integer n → m ≡ n
lengths_once None None e = refl
lengths_once None (Some n) e = absurd cc
lengths_once (Some m) None e = absurd cc
lengths_once (Some m) (Some n) e = let same : small_integer m ≡ small_integer n = cc in ap Some (integer_once m n same)

integer_formed : (number : ℕ) → IsWellFormed (small_integer number)
integer_formed number = ((omega arith, omega arith, omega arith), refl)

-- ---- constraints

pub same_constraints : (a b : BasicConstraints) → a.ca ≡ b.ca → a.pathlen ≡ b.pathlen → a ≡ b
same_constraints a b ca pathlen =
    ap (λ (x : Option Bool). record { ca = x; pathlen = a.pathlen }) ca ∙ ap (λ (x : Option ℕ). record { ca = b.ca; pathlen = x }) pathlen

constraints_once : (element : DerElement) (a b : BasicConstraints) → IsBasicConstraints element a → IsBasicConstraints element b → a ≡ b
constraints_once element a b p q =
    let kids = same_fields (p.flag ++ optional_integer a.pathlen) (q.flag ++ optional_integer b.pathlen) (sym p.is ∙ q.is) in
    let parts = split 0x01 p.flag q.flag (optional_integer a.pathlen) (optional_integer b.pathlen) (optional_field p.flag a.ca p.flagged)
    (optional_field q.flag b.ca q.flagged) (λ e. no_flag a.pathlen) (λ e. no_flag b.pathlen) kids in
    same_constraints a b (optional_once q.flag a.ca b.ca (subst (λ (f : List DerElement). IsOptionalBoolean f a.ca) parts.0 p.flagged) q.flagged)
    (lengths_once a.pathlen b.pathlen parts.1)

pub formed_of : (ca : Option Bool) (pathlen : Option ℕ) → IsWellFormed (sequence (optional_boolean ca ++ optional_integer pathlen))
formed_of None None = ((omega arith, omega arith, omega arith), refl, tt)
formed_of None (Some n) = ((omega arith, omega arith, omega arith), refl, (integer_formed n, tt))
formed_of (Some b) None = ((omega arith, omega arith, omega arith), refl, (boolean_formed b, tt))
formed_of (Some b) (Some n) = ((omega arith, omega arith, omega arith), refl, (boolean_formed b, (integer_formed n, tt)))

pub all_basic_constraints : IsGrammar IsBasicConstraints basic_constraints (λ b. [])
all_basic_constraints = record {
  once = constraints_once;
  bounded = λ element b p. tt;
  spelled = λ b der. record { flag = optional_boolean b.ca; flagged = optional_is b.ca; is = refl };
  formed = λ b. formed_of b.ca b.pathlen;
}

-- constraints with one element are the same
pub constraints_printed : (a b : BasicConstraints) → basic_constraints a ≡ basic_constraints b → a ≡ b
constraints_printed a b e = constraints_once (basic_constraints b) a b (record { flag = optional_boolean a.ca; flagged = optional_is a.ca; is = sym e })
    (all_basic_constraints.spelled b tt)

-- ---- basic constraints are short

abbrev integer_with : Bool → ℕ → DerElement
integer_with low number = Primitive 0x02 (if low then number ∷ [] else 0 ∷ number ∷ [])

length_short : (low : Bool) (number : ℕ) → IsShort (sequence (integer_with low number ∷ []))
unfolding length_octets
length_short true number = (omega arith, (omega arith, tt))
length_short false number = (omega arith, (omega arith, tt))

both_short : (b low : Bool) (number : ℕ) → IsShort (sequence (boolean b ∷ integer_with low number ∷ []))
unfolding length_octets
both_short b true number = (omega arith, (omega arith, (omega arith, tt)))
both_short b false number = (omega arith, (omega arith, (omega arith, tt)))

flag_short : (b : Bool) → IsShort (sequence (boolean b ∷ []))
unfolding length_octets
flag_short b = (omega arith, (omega arith, tt))

given_der : (ca : Option Bool) (pathlen : Option ℕ) → IsDer (sequence (optional_boolean ca ++ optional_integer pathlen))
given_der None None = record { formed = formed_of None None; nested = omega arith; short = (omega arith, tt) }
given_der None (Some n) = record { formed = formed_of None (Some n); nested = omega arith; short = length_short (nat_lt n 128) n }
given_der (Some b) None = record { formed = formed_of (Some b) None; nested = omega arith; short = flag_short b }
given_der (Some b) (Some n) = record { formed = formed_of (Some b) (Some n); nested = omega arith; short = both_short b (nat_lt n 128) n }

pub constraints_der : (b : BasicConstraints) → IsDer (basic_constraints b)
constraints_der b = given_der b.ca b.pathlen

-- ---- other encodings

-- a BOOLEAN is the one that is written, or another octet than FF
pub true_or_not_der : (kid : DerElement) (b : Bool) (is : IsBoolean kid b) → (kid ≡ boolean true) × (b ≡ true) ⊎ (is.0 ≢ 0xFF)
true_or_not_der kid b is =
    elim (cases_eq is.0 0xFF) [
      | inl ff ↦ inl (is.1 ∙ ap (λ (o : ℕ). Primitive 0x01 (o ∷ [])) ff, is.2 ∙ ap (λ (o : ℕ). not (o == 0)) ff)
      | inr other ↦ inr other
    ]

-- a flag in an octet is FALSE only for 00
octet_spelled : (element : DerElement) (octet : ℕ) (b : BasicConstraints) (c : Bool) → b.ca ≡ Some c → c ≡ not (octet == 0) → octet ≢ 0xFF
    → element ≡ sequence (Primitive 0x01 (octet ∷ []) ∷ optional_integer b.pathlen)
    → (element ≡ basic_constraints b) ⊎ HasOtherTrue element b
octet_spelled element zero b c given flagged other is =
    inl (is ∙ ap (λ (flag : Option Bool). sequence (optional_boolean flag ++ optional_integer b.pathlen)) (ap Some (sym flagged) ∙ sym given))
octet_spelled element (suc n) b c given flagged other is =
    inr (record {
      octet = suc n;
      other = other;
      nonzero = λ e. absurd cc;
      given = given ∙ ap Some (flagged ∙ ap not (ne_eqb (suc n) zero (λ e. absurd cc)));
      is = is;
    })

flag_spelled : (element : DerElement) (b : BasicConstraints) (ca : Option Bool) (flag : List DerElement) → b.ca ≡ ca
    → element ≡ sequence (flag ++ optional_integer b.pathlen) → IsOptionalBoolean flag ca
    → (element ≡ basic_constraints b) ⊎ HasOtherTrue element b
flag_spelled element b None flag given is flagged =
    inl (is ∙ ap (λ (f : List DerElement). sequence (f ++ optional_integer b.pathlen)) (flagged ∙ ap optional_boolean (sym given)))
flag_spelled element b (Some c) flag given is (kid, one, flagged) =
    let are : element ≡ sequence (kid ∷ optional_integer b.pathlen) = is ∙ ap (λ (f : List DerElement). sequence (f ++ optional_integer b.pathlen)) one in
    elim (true_or_not_der kid c flagged) [
      | inl (same, set) ↦ inl (are ∙ ap (λ (k : DerElement). sequence (k ∷ optional_integer b.pathlen)) (same ∙ ap boolean (sym set))
          ∙ ap (λ (f : Option Bool). sequence (optional_boolean f ++ optional_integer b.pathlen)) (sym given))
      | inr other ↦
          octet_spelled element flagged.0 b c given flagged.2 other (are ∙ ap (λ (k : DerElement). sequence (k ∷ optional_integer b.pathlen)) flagged.1)
    ]

-- constraints are encoded as they are written, or by another TRUE
pub constraints_spelled : (element : DerElement) (b : BasicConstraints) → IsBasicConstraints element b
    → (element ≡ basic_constraints b) ⊎ HasOtherTrue element b
constraints_spelled element b is = flag_spelled element b b.ca is.flag refl is.is is.flagged
