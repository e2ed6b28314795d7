-- Trust lists: different ones have different elements, each well formed.
use Rattle.std.proofs.Common.{◌≡◌, ◌↔◌, IsTrue, Bool, List, [], ◌∷◌, refl, ap, sym, subst, ◌∙◌, arith}
use Rattle.std.specs.Prelude.{bytes_eq}
use Rattle.std.specs.Cmp.Lexicographic.{pointwise}
use Rattle.std.proofs.Props.{props}
use mathlib.Core.Logic.{∥∥₁_elim, ∥∥₁_prop}
use Rattle.der_core.specs.DerElement.{DerElement, tag_of}
use Rattle.der_core.specs.Encoding.{encoding}
use Rattle.der_core.specs.Owned.{KeptElement}
use Rattle.der_core.specs.Structure.{IsGrammar}
use Rattle.der_core.specs.Facts.Equality.{pointwise_same, octets_same}
use Rattle.der_core.specs.Facts.Grammars.{printed, same_fields, list_once}
use Rattle.der_core.specs.Facts.Owned.{same_kept}
use Rattle.der_core.specs.Facts.Lists.{printed_list}
use Rattle.cms_content.specs.CtlEntry.{ctl_entry}
use Rattle.cms_content.specs.Ctl.{Begins, MayBegin, IsNothing, FirstNot, IsIntegerElement, IsString, IsPurposeList, IsTime}
use Rattle.cms_content.specs.Ctl.{IsAlgorithmElement, AreEntries, AreExtensions, FromEntries, FromAlgorithm, FromThisUpdate, FromUsage, IsCtl}
use Rattle.cms_content.specs.CtlElement.{ctl}
use Rattle.cms_content.specs.Facts.CtlEntries.{ctl_entries}
use Rattle.cms_content.specs.declared.ctl.Ctl.{Ctl}
use Rattle.cms_content.specs.declared.ctl_entry.CTLEntry.{CTLEntry}

-- ---- elements of one form aren't of another

begins_not : (P Q : DerElement → Type 0) (behind : List DerElement → Type 0) (kids : List DerElement) → ((e : DerElement) → P e → Q e → ⊥)
    → Begins P behind kids → FirstNot Q kids
begins_not P Q behind kids apart b = subst (FirstNot Q) (sym b.are) (λ q. apart b.first b.is q)

may_not : (P Q : DerElement → Type 0) (behind : List DerElement → Type 0) (kids : List DerElement) → ((e : DerElement) → P e → Q e → ⊥)
    → (behind kids → FirstNot Q kids) → MayBegin P behind kids → FirstNot Q kids
may_not P Q behind kids apart others (MayBegin.LeftOut rest) = others rest
may_not P Q behind kids apart others (MayBegin.Given b) = begins_not P Q behind kids apart b

integer_tag : (e : DerElement) → IsIntegerElement e → tag_of e ≡ 0x02
integer_tag e is = ap tag_of is.1

string_tag : (e : DerElement) → IsString e → tag_of e ≡ 0x04
string_tag e is = ap tag_of is.1

usage_tag : (e : DerElement) → IsPurposeList e → tag_of e ≡ 0x30
usage_tag e is = ap tag_of is.1.holds

algorithm_tag : (e : DerElement) → IsAlgorithmElement e → tag_of e ≡ 0x30
algorithm_tag e is = ap tag_of is.1

pub usage_no_integer : (entries : List CTLEntry) (kids : List DerElement) → FromUsage entries kids → FirstNot IsIntegerElement kids
usage_no_integer entries kids b = begins_not IsPurposeList IsIntegerElement _ kids (λ e p q. absurd (omega (arith, usage_tag e p, integer_tag e q))) b

pub this_no_integer : (entries : List CTLEntry) (kids : List DerElement) → FromThisUpdate entries kids → FirstNot IsIntegerElement kids
this_no_integer entries kids b = begins_not IsTime IsIntegerElement _ kids (λ e p q. absurd (omega (arith, p.0, integer_tag e q))) b

pub number_no_string : (entries : List CTLEntry) (kids : List DerElement) → MayBegin IsIntegerElement (FromThisUpdate entries) kids → FirstNot IsString kids
number_no_string entries kids m =
    may_not IsIntegerElement IsString (FromThisUpdate entries) kids (λ e p q. absurd (omega (arith, integer_tag e p, string_tag e q)))
    (λ b. begins_not IsTime IsString _ kids (λ e p q. absurd (omega (arith, p.0, string_tag e q))) b) m

pub algorithm_no_time : (entries : List CTLEntry) (kids : List DerElement) → FromAlgorithm entries kids → FirstNot IsTime kids
algorithm_no_time entries kids b = begins_not IsAlgorithmElement IsTime _ kids (λ e p q. absurd (omega (arith, algorithm_tag e p, q.1))) b

pub nothing_no_extensions : (kids : List DerElement) → IsNothing kids → FirstNot AreExtensions kids
nothing_no_extensions kids none = subst (FirstNot AreExtensions) (sym none) tt

-- ---- the same elements have the same fields

first_such : (holds : DerElement → Type 0) (behind : List DerElement → Type 0) (kids : List DerElement) → FirstNot holds kids → Begins holds behind kids → ⊥
first_such holds behind kids unfit b = subst (FirstNot holds) b.are unfit b.is

same_rest : (P Q : DerElement → Type 0) (R S : List DerElement → Type 0) (kids : List DerElement) (b : Begins P R kids) (c : Begins Q S kids)
    → (b.first ≡ c.first) × (b.others ≡ c.others)
same_rest P Q R S kids b c = let same : b.first ∷ b.others ≡ c.first ∷ c.others = sym b.are ∙ c.are in (cc, cc)

both_begin : {G : Type 0} (P : DerElement → Type 0) (R S : List DerElement → Type 0) (kids : List DerElement) → ((rest : List DerElement) → R rest → S rest → G)
    → Begins P R kids → Begins P S kids → G
both_begin P R S kids onward b c = onward c.others (subst R (same_rest P P R S kids b c).1 b.rest) c.rest

both_may : {G : Type 0} (P : DerElement → Type 0) (R S : List DerElement → Type 0) (kids : List DerElement) → (R kids → FirstNot P kids)
    → (S kids → FirstNot P kids)
    → ((rest : List DerElement) → R rest → S rest → G) → MayBegin P R kids → MayBegin P S kids → G
both_may P R S kids r_not s_not onward (MayBegin.LeftOut r) (MayBegin.LeftOut s) = onward kids r s
both_may P R S kids r_not s_not onward (MayBegin.LeftOut r) (MayBegin.Given c) = absurd (first_such P S kids (r_not r) c)
both_may P R S kids r_not s_not onward (MayBegin.Given b) (MayBegin.LeftOut s) = absurd (first_such P R kids (s_not s) b)
both_may P R S kids r_not s_not onward (MayBegin.Given b) (MayBegin.Given c) = both_begin P R S kids onward b c

same_entry : (a b : CTLEntry) → ctl_entry a ≡ ctl_entry b → a ≡ b
same_entry a b e = ctl_entries.once (ctl_entry a) a b refl e

entries_same : (e : DerElement) (xs ys : List CTLEntry) → AreEntries e xs → AreEntries e ys → xs ≡ ys
entries_same e xs ys p q = list_once 0x30 ctl_entry same_entry xs ys (sym (printed_list ctl_entry 0x30 e xs p) ∙ printed_list ctl_entry 0x30 e ys q)

from_entries : (xs ys : List CTLEntry) (kids : List DerElement) → FromEntries xs kids → FromEntries ys kids → xs ≡ ys
from_entries xs ys kids b c =
    entries_same c.first xs ys
    (subst (λ (e : DerElement). AreEntries e xs) (same_rest (λ element. AreEntries element xs) (λ element. AreEntries element ys)
    (MayBegin AreExtensions IsNothing) (MayBegin AreExtensions IsNothing) kids b c).0 b.is) c.is

from_algorithm : (xs ys : List CTLEntry) (kids : List DerElement) → FromAlgorithm xs kids → FromAlgorithm ys kids → xs ≡ ys
from_algorithm xs ys kids b c = both_begin IsAlgorithmElement (FromEntries xs) (FromEntries ys) kids (from_entries xs ys) b c

from_this : (xs ys : List CTLEntry) (kids : List DerElement) → FromThisUpdate xs kids → FromThisUpdate ys kids → xs ≡ ys
from_this xs ys kids b c =
    both_begin IsTime (MayBegin IsTime (FromAlgorithm xs)) (MayBegin IsTime (FromAlgorithm ys)) kids
    (λ rest r s. both_may IsTime (FromAlgorithm xs) (FromAlgorithm ys) rest (algorithm_no_time xs rest) (algorithm_no_time ys rest) (from_algorithm xs ys) r s)
    b c

from_number : (xs ys : List CTLEntry) (kids : List DerElement) → MayBegin IsIntegerElement (FromThisUpdate xs) kids
    → MayBegin IsIntegerElement (FromThisUpdate ys) kids → xs ≡ ys
from_number xs ys kids b c =
    both_may IsIntegerElement (FromThisUpdate xs) (FromThisUpdate ys) kids (this_no_integer xs kids) (this_no_integer ys kids) (from_this xs ys) b c

from_usage : (xs ys : List CTLEntry) (kids : List DerElement) → FromUsage xs kids → FromUsage ys kids → xs ≡ ys
from_usage xs ys kids b c =
    both_begin IsPurposeList (MayBegin IsString (MayBegin IsIntegerElement (FromThisUpdate xs)))
    (MayBegin IsString (MayBegin IsIntegerElement (FromThisUpdate ys))) kids
    (λ rest r s. both_may IsString (MayBegin IsIntegerElement (FromThisUpdate xs)) (MayBegin IsIntegerElement (FromThisUpdate ys)) rest
    (number_no_string xs rest) (number_no_string ys rest) (from_number xs ys) r s) b c

lists_same : (element : DerElement) (xs ys : List CTLEntry) → IsCtl element xs → IsCtl element ys → xs ≡ ys
lists_same element xs ys p q =
    let same = same_fields p.kids q.kids (sym p.is ∙ q.is) in
    both_may IsIntegerElement (FromUsage xs) (FromUsage ys) q.kids (usage_no_integer xs q.kids) (usage_no_integer ys q.kids) (from_usage xs ys)
    (subst (MayBegin IsIntegerElement (FromUsage xs)) same p.fields) q.fields

-- ---- an element encodes at most one list of entries, whatever the proof

equal : CTLEntry → CTLEntry → Bool
equal a b = bytes_eq (encoding (ctl_entry a)) (encoding (ctl_entry b))

equal_same : (a b : CTLEntry) → IsTrue (equal a b) ↔ (a ≡ b)
unfolding equal
equal_same a b = octets_same ctl_entry same_entry ctl_entries.formed a b

test_prop : (t : Bool) → IsProp (IsTrue t)
test_prop t = hlevel props

lists_once : (element : DerElement) (a b : List CTLEntry) → ∥ IsCtl element a ∥₁ → ∥ IsCtl element b ∥₁ → a ≡ b
lists_once element a b p q =
    let same = pointwise_same equal equal_same a b in
    same.0 (∥∥₁_elim p (test_prop (pointwise equal a b)) (λ x. ∥∥₁_elim q (test_prop (pointwise equal a b)) (λ y. same.1 (lists_same element a b x y))))

abbrev ctl_with : (element : KeptElement) (entries : List CTLEntry) → ∥ IsCtl element.element entries ∥₁ → Ctl
ctl_with element entries are = record { element = element; entries = entries; are = are }

same_ctl : (a b : Ctl) → a.element ≡ b.element → a.entries ≡ b.entries → a ≡ b
same_ctl a b element entries =
    let with_entries : (h : ∥ IsCtl a.element.element b.entries ∥₁) → a ≡ ctl_with a.element b.entries h =
    subst (λ (l : List CTLEntry). (h : ∥ IsCtl a.element.element l ∥₁) → a ≡ ctl_with a.element l h) entries
    (λ h. ap (ctl_with a.element a.entries) (∥∥₁_prop a.are h)) in
    subst (λ (k : KeptElement). (h : ∥ IsCtl k.element b.entries ∥₁) → a ≡ ctl_with k b.entries h) element with_entries b.are

pub ctls_once : (a b : Ctl) → ctl a ≡ ctl b → a ≡ b
ctls_once a b e =
    same_ctl a b (same_kept a.element b.element e)
    (lists_once b.element.element a.entries b.entries (subst (λ (t : DerElement). ∥ IsCtl t a.entries ∥₁) e a.are) b.are)

pub ctls : IsGrammar (λ element value. element ≡ ctl value) ctl (λ value. [])
ctls = printed ctl ctls_once (λ value. value.element.der.formed)
