-- The fields of a trust list, taken one after another.
use mathlib.Core.Logic.{∥∥₁_elim}
use Rattle.std.proofs.Common.{◌≡◌, ℕ, List, [], ◌∷◌, Option, Some, None, MatchOption, sym, subst, ◌∙◌}
use Rattle.der_core.specs.DerElement.{DerElement, Constructed, row, tag_of}
use Rattle.der_core.specs.Elements.{octet_string}
use Rattle.der_core.specs.Structure.{Fits, BeginsOtherwise, BeginsUnfit, HasMore}
use Rattle.der_core.specs.declared.elem.Elem.{Elem}
use Rattle.der_core.proofs.Parts.{same_kids}
use Rattle.asn1_types.specs.Elements.{integer}
use Rattle.asn1_types.specs.declared.integer.IntegerAsn1.{IntegerAsn1}
use Rattle.cms_content.specs.Ctl.{Begins, MayBegin, IsNothing, FirstNot, IsIntegerElement, IsString, IsPurposeList, IsTime}
use Rattle.cms_content.specs.Ctl.{IsAlgorithmElement, AreEntries, AreExtensions, FromEntries, FromAlgorithm, FromThisUpdate, FromUsage, IsCtl}
use Rattle.cms_content.specs.Facts.Ctls.{usage_no_integer, this_no_integer, number_no_string, algorithm_no_time, nothing_no_extensions}
use Rattle.cms_content.specs.CtlElement.{ctl}
use Rattle.cms_content.specs.declared.ctl.Ctl.{Ctl}
use Rattle.cms_content.specs.declared.ctl_entry.CTLEntry.{CTLEntry}

-- ---- an optional element was taken, or not

abbrev pub Took : (DerElement → Type 0) → Option Elem → List DerElement → List DerElement → Type 0
Took holds found old new = MatchOption found ((new ≡ old) × FirstNot holds old) (λ elem. (old ≡ elem.is.0 ∷ new) × holds elem.is.0)

pub unfit_not : {X : Type 0} (spells : DerElement → X → Type 0) (kids : List DerElement) → BeginsUnfit spells kids → FirstNot (Fits spells) kids
unfit_not spells [] unfit = tt
unfit_not spells (kid ∷ kids) unfit = λ fit. unfit fit.0 fit.1

pub took_as : {X : Type 0} (spells : DerElement → X → Type 0) (found : Option Elem) (old new : List DerElement)
    → MatchOption found ((new ≡ old) × BeginsUnfit spells old) (λ elem. (old ≡ elem.is.0 ∷ new) × Fits spells elem.is.0) → Took (Fits spells) found old new
took_as spells None old new m = (m.0, unfit_not spells old m.1)
took_as spells (Some elem) old new m = m

pub took_integer : (found : Option Elem) (old new : List DerElement)
    → MatchOption found ((new ≡ old) × BeginsUnfit (λ (element : DerElement) (value : IntegerAsn1). element ≡ integer value) old)
    (λ elem. (old ≡ elem.is.0 ∷ new) × IsIntegerElement elem.is.0) → Took IsIntegerElement found old new
took_integer found old new m = took_as (λ (element : DerElement) (value : IntegerAsn1). element ≡ integer value) found old new m

pub took_string : (found : Option Elem) (old new : List DerElement)
    → MatchOption found ((new ≡ old) × BeginsUnfit (λ (element : DerElement) (octets : List ℕ). element ≡ octet_string octets) old)
    (λ elem. (old ≡ elem.is.0 ∷ new) × IsString elem.is.0) → Took IsString found old new
took_string found old new m = took_as (λ (element : DerElement) (octets : List ℕ). element ≡ octet_string octets) found old new m

other_not : (kids : List DerElement) → BeginsOtherwise 0xA0 kids → FirstNot AreExtensions kids
other_not [] other = tt
other_not (kid ∷ kids) other = λ is. other is

pub took_tagged : (found : Option Elem) (old new : List DerElement) → MatchOption found ((new ≡ old) × BeginsOtherwise 0xA0 old)
    (λ elem. (old ≡ elem.is.0 ∷ new) × (tag_of elem.is.0 ≡ 0xA0)) → Took AreExtensions found old new
took_tagged None old new m = (m.0, other_not old m.1)
took_tagged (Some elem) old new m = m

pub not_begun : (holds : DerElement → Type 0) (behind : List DerElement → Type 0) (kids : List DerElement) → FirstNot holds kids → Begins holds behind kids → ⊥
not_begun holds behind kids unfit b = subst (FirstNot holds) b.are unfit b.is

pub behind_first : (holds : DerElement → Type 0) (behind : List DerElement → Type 0) (old : List DerElement) (first : DerElement) (new : List DerElement)
    → old ≡ first ∷ new → Begins holds behind old → behind new
behind_first holds behind old first new are b =
    let same : b.first ∷ b.others ≡ first ∷ new = sym b.are ∙ are in
    let rest : b.others ≡ new = cc in
    subst behind rest b.rest

goes_on : (holds : DerElement → Type 0) (behind : List DerElement → Type 0) (found : Option Elem) (old new : List DerElement) → Took holds found old new
    → (behind old → FirstNot holds old) → MayBegin holds behind old → behind new
goes_on holds behind None old new t apart (MayBegin.LeftOut rest) = subst behind (sym t.0) rest
goes_on holds behind None old new t apart (MayBegin.Given b) = absurd (not_begun holds behind old t.1 b)
goes_on holds behind (Some elem) old new t apart (MayBegin.LeftOut rest) = absurd (subst (FirstNot holds) t.0 (apart rest) t.1)
goes_on holds behind (Some elem) old new t apart (MayBegin.Given b) = behind_first holds behind old elem.is.0 new t.0 b

goes_back : (holds : DerElement → Type 0) (behind : List DerElement → Type 0) (found : Option Elem) (old new : List DerElement) → Took holds found old new
    → behind new → MayBegin holds behind old
goes_back holds behind None old new t rest = MayBegin.LeftOut (subst behind t.0 rest)
goes_back holds behind (Some elem) old new t rest = MayBegin.Given (record { first = elem.is.0; others = new; are = t.0; is = t.1; rest = rest })

-- ---- from field to field

pub usage_row : (e : DerElement) (k0 k1 : List DerElement) (version : Option Elem) (es : List CTLEntry) → e ≡ Constructed 0x30 (row k0)
    → Took IsIntegerElement version k0 k1 → IsCtl e es → FromUsage es k1
usage_row e k0 k1 version es is t of =
    goes_on IsIntegerElement (FromUsage es) version k0 k1 t (usage_no_integer es k0)
    (subst (MayBegin IsIntegerElement (FromUsage es)) (sym (same_kids e 0x30 0x30 k0 of.kids is of.is)) of.fields)

pub this_row : (es : List CTLEntry) (u : DerElement) (k1 k2 k3 k4 : List DerElement) (identifier number : Option Elem) → k1 ≡ u ∷ k2
    → Took IsString identifier k2 k3 → Took IsIntegerElement number k3 k4 → FromUsage es k1 → FromThisUpdate es k4
this_row es u k1 k2 k3 k4 identifier number are s i of =
    goes_on IsIntegerElement (FromThisUpdate es) number k3 k4 i (this_no_integer es k3)
    (goes_on IsString (MayBegin IsIntegerElement (FromThisUpdate es)) identifier k2 k3 s (number_no_string es k2)
    (behind_first IsPurposeList (MayBegin IsString (MayBegin IsIntegerElement (FromThisUpdate es))) k1 u k2 are of))

pub algorithm_row : (es : List CTLEntry) (t : DerElement) (k4 k5 k6 : List DerElement) (next : Option Elem) → k4 ≡ t ∷ k5 → Took IsTime next k5 k6
    → FromThisUpdate es k4 → FromAlgorithm es k6
algorithm_row es t k4 k5 k6 next are n of =
    goes_on IsTime (FromAlgorithm es) next k5 k6 n (algorithm_no_time es k5) (behind_first IsTime (MayBegin IsTime (FromAlgorithm es)) k4 t k5 are of)

pub entries_row : (es : List CTLEntry) (a : DerElement) (k6 k7 : List DerElement) → k6 ≡ a ∷ k7 → FromAlgorithm es k6 → FromEntries es k7
entries_row es a k6 k7 are of = behind_first IsAlgorithmElement (FromEntries es) k6 a k7 are of

pub no_entries : (es : List CTLEntry) (kids : List DerElement) → FirstNot (Fits AreEntries) kids → FromEntries es kids → ⊥
no_entries es kids unfit b = subst (FirstNot (Fits AreEntries)) b.are unfit (es, b.is)

pub nothing_row : (es : List CTLEntry) (e : DerElement) (k7 k8 k9 : List DerElement) (extensions : Option Elem) → k7 ≡ e ∷ k8
    → Took AreExtensions extensions k8 k9 → FromEntries es k7 → IsNothing k9
nothing_row es e k7 k8 k9 extensions are x of =
    goes_on AreExtensions IsNothing extensions k8 k9 x (nothing_no_extensions k8)
    (behind_first (λ element. AreEntries element es) (MayBegin AreExtensions IsNothing) k7 e k8 are of)

pub no_more : (kids : List DerElement) → HasMore kids → IsNothing kids → ⊥
no_more kids more none = let same : more.kid ∷ more.rest ≡ [] = sym more.are ∙ none in absurd cc

pub ctl_whole : (e u t a x : DerElement) (k0 k1 k2 k3 k4 k5 k6 k7 k8 k9 : List DerElement) (version identifier number next extensions : Option Elem)
    (es : List CTLEntry)
    → e ≡ Constructed 0x30 (row k0) → Took IsIntegerElement version k0 k1 → (k1 ≡ u ∷ k2) × IsPurposeList u → Took IsString identifier k2 k3
    → Took IsIntegerElement number k3 k4 → (k4 ≡ t ∷ k5) × IsTime t → Took IsTime next k5 k6
    → (k6 ≡ a ∷ k7) × IsAlgorithmElement a → k7 ≡ x ∷ k8 → Took AreExtensions extensions k8 k9 → k9 ≡ [] → AreEntries x es → IsCtl e es
ctl_whole e u t a x k0 k1 k2 k3 k4 k5 k6 k7 k8 k9 version identifier number next extensions es is tv tu ti tn tt' tx ta te te' none list =
    let entries : FromEntries es k7 = record {
      first = x;
      others = k8;
      are = te;
      is = list;
      rest = goes_back AreExtensions IsNothing extensions k8 k9 te' none;
    } in
    let algorithm : FromAlgorithm es k6 = record { first = a; others = k7; are = ta.0; is = ta.1; rest = entries } in
    let this : FromThisUpdate es k4 = record {
      first = t;
      others = k5;
      are = tt'.0;
      is = tt'.1;
      rest = goes_back IsTime (FromAlgorithm es) next k5 k6 tx algorithm;
    } in
    let usage : FromUsage es k1 = record {
      first = u;
      others = k2;
      are = tu.0;
      is = tu.1;
      rest = goes_back IsString (MayBegin IsIntegerElement (FromThisUpdate es)) identifier k2 k3 ti
          (goes_back IsIntegerElement (FromThisUpdate es) number k3 k4 tn this);
    } in
    record { kids = k0; is = is; fields = goes_back IsIntegerElement (FromUsage es) version k0 k1 tv usage }

-- ---- of a stored trust list

pub no_list : (e : DerElement) (v : Ctl) → e ≡ ctl v → ((es : List CTLEntry) → IsCtl e es → ⊥) → ⊥
no_list e v is none = ∥∥₁_elim v.are (λ x y. absurd x) (λ are. none v.entries (subst (λ (t : DerElement). IsCtl t v.entries) (sym is) are))
