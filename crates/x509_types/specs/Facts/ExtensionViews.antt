-- Kinds and values of extensions: octets hold at most one value of a kind, and what is written for
-- a value holds it.
use Rattle.std.proofs.Common.{◌≡◌, ◌⊎◌, inl, inr, ℕ, ◌<◌, List, [], refl, ap, sym, subst, ◌∙◌, arith}
use Rattle.std.specs.Prelude.{IsTrue, Bool, true, false, ◌==◌, if◌then◌else◌}
use Rattle.std.specs.Coded.{Coded-set}
use Rattle.std.proofs.Props.{props}
use base.Stored.{Coded, gnum, num}
use Rattle.der_core.specs.Each.{Prints}
use Rattle.der_core.specs.DerElement.{DerElement}
use Rattle.der_core.specs.Encoding.{encoding}
use Rattle.der_core.specs.Borrowed.{AreDer}
use Rattle.der_core.specs.Structure.{IsWithin, FitsWithin, IsGrammar}
use Rattle.der_core.specs.Refusals.{RefusesShape}
use Rattle.der_core.specs.declared.error.DerError.{DerError}
use Rattle.der_core.specs.declared.error.DerError.TheVariants as errors
use Rattle.der_core.specs.Facts.Lists.{list_refused}
use Rattle.der_core.specs.Facts.Within.{within_once, within_written, within_bounds, encoded_once}
use Rattle.der_core.specs.Facts.OctetStrings.{octet_strings}
use Rattle.extension_types.specs.BasicConstraints.{basic_constraints, IsBasicConstraints}
use Rattle.extension_types.specs.AuthorityKeyIdentifier.{authority_key_identifier}
use Rattle.extension_types.specs.KeyUsage.{key_usage}
use Rattle.extension_types.specs.ExtendedKeyUsage.{extended_key_usage}
use Rattle.extension_types.specs.Facts.Constraints.{all_basic_constraints, constraints_printed, constraints_der}
use Rattle.extension_types.specs.Facts.Usages.{key_usages, extended_key_usages}
use Rattle.extension_types.specs.Facts.AuthorityKeys.{authority_key_identifiers}
use Rattle.extension_types.specs.declared.basic_constraints.BasicConstraints.{BasicConstraints}
use Rattle.name_types.specs.GeneralName.{general_names, AreGeneralNames}
use Rattle.name_types.specs.Facts.GeneralNames.{general_name_lists}
use Rattle.name_types.specs.declared.general_name.RawGeneralName.{RawGeneralName}
use Rattle.x509_types.specs.ExtensionView.{extension_kind_number, kind_of_view, key_identifier, value_octets, inner_value}
use Rattle.x509_types.specs.ExtensionView.{view_octets, IsValueIn, HoldsNoNames, MayBeKept, IsOfKind, IsValueOf}
use Rattle.x509_types.specs.declared.extension.view.ExtensionKind.{ExtensionKind}
use Rattle.x509_types.specs.declared.extension.view.ExtensionKind.TheVariants as kinds
use Rattle.x509_types.specs.declared.extension.view.ExtensionView.{ExtensionView}
use Rattle.x509_types.specs.declared.extension.view.ExtensionView.TheVariants as views

-- ---- kinds have different numbers, below every tag that begins an element

abbrev kind_at : ℕ → ExtensionKind
kind_at number =
    if number == 0 then kinds.SubjectKeyIdentifier
    else (if number == 1 then kinds.KeyUsage
    else (if number == 2 then kinds.SubjectAltName
    else (if number == 3 then kinds.IssuerAltName
    else (if number == 4 then kinds.BasicConstraints
    else (if number == 5 then kinds.AuthorityKeyIdentifier
    else (if number == 6 then kinds.ExtendedKeyUsage
    else kinds.Other))))))

kind_of_number : (kind : ExtensionKind) → kind_at (extension_kind_number kind) ≡ kind
kind_of_number kinds.SubjectKeyIdentifier = refl
kind_of_number kinds.KeyUsage = refl
kind_of_number kinds.SubjectAltName = refl
kind_of_number kinds.IssuerAltName = refl
kind_of_number kinds.BasicConstraints = refl
kind_of_number kinds.AuthorityKeyIdentifier = refl
kind_of_number kinds.ExtendedKeyUsage = refl
kind_of_number kinds.Other = refl

abbrev coded_kind : Coded ExtensionKind
coded_kind = record {
  code = λ kind. gnum (extension_kind_number kind);
  inj = λ a b e. sym (kind_of_number a) ∙ ap (λ v. kind_at (num v)) e ∙ kind_of_number b;
}

pub same_kinds : (a b : ExtensionKind) → IsProp (a ≡ b)
same_kinds a b = Coded-set coded_kind a b

pub kinds_by_number : (a b : ExtensionKind) → extension_kind_number a ≡ extension_kind_number b → a ≡ b
kinds_by_number a b e = sym (kind_of_number a) ∙ ap kind_at e ∙ kind_of_number b

pub small_kind : (kind : ExtensionKind) → extension_kind_number kind < 48
small_kind kinds.SubjectKeyIdentifier = omega arith
small_kind kinds.KeyUsage = omega arith
small_kind kinds.SubjectAltName = omega arith
small_kind kinds.IssuerAltName = omega arith
small_kind kinds.BasicConstraints = omega arith
small_kind kinds.AuthorityKeyIdentifier = omega arith
small_kind kinds.ExtendedKeyUsage = omega arith
small_kind kinds.Other = omega arith

-- ---- values within octets

printed_once : {X : Type 0} (written : X → DerElement) → IsGrammar (Prints written) written (λ x. []) → (a b : X)
    → encoding (written a) ≡ encoding (written b) → a ≡ b
printed_once written grammar = encoded_once written (λ a b e. grammar.once (written a) a b refl e) grammar.formed

-- ---- that values are of their kinds has at most one proof

MayBeKept-prop : (kind : ExtensionKind) (octets : List ℕ) → IsProp (MayBeKept kind octets)
MayBeKept-prop kinds.SubjectKeyIdentifier octets = hlevel props
MayBeKept-prop kinds.KeyUsage octets = hlevel props
MayBeKept-prop kinds.SubjectAltName octets = hlevel props
MayBeKept-prop kinds.IssuerAltName octets = hlevel props
MayBeKept-prop kinds.BasicConstraints octets = hlevel props
MayBeKept-prop kinds.AuthorityKeyIdentifier octets = hlevel props
MayBeKept-prop kinds.ExtendedKeyUsage octets = hlevel props
MayBeKept-prop kinds.Other octets = hlevel props

pub IsOfKind-prop : (kind : ExtensionKind) (view : ExtensionView) → IsProp (IsOfKind kind view)
IsOfKind-prop kind (views.SubjectKeyIdentifier x) = same_kinds kinds.SubjectKeyIdentifier kind
IsOfKind-prop kind (views.KeyUsage x) = same_kinds kinds.KeyUsage kind
IsOfKind-prop kind (views.SubjectAltName x) = same_kinds kinds.SubjectAltName kind
IsOfKind-prop kind (views.IssuerAltName x) = same_kinds kinds.IssuerAltName kind
IsOfKind-prop kind (views.BasicConstraints x) = same_kinds kinds.BasicConstraints kind
IsOfKind-prop kind (views.AuthorityKeyIdentifier x) = same_kinds kinds.AuthorityKeyIdentifier kind
IsOfKind-prop kind (views.ExtendedKeyUsage x) = same_kinds kinds.ExtendedKeyUsage kind
IsOfKind-prop kind (views.Raw x) = MayBeKept-prop kind x

-- ---- octets hold at most one value of a kind

-- the value is one of a form, held in these octets
abbrev IsHeld : {X : Type 0} → (X → ExtensionView) → (List ℕ → X → Type 0) → List ℕ → ExtensionView → Type 0
IsHeld {X} named held octets view = (value : X) × (view ≡ named value) × held octets value

-- general names, or raw octets
abbrev AreNames : (List RawGeneralName → ExtensionView) → List ℕ → ExtensionView → Type 0
AreNames named octets view = IsHeld named (IsWithin AreGeneralNames) octets view ⊎ ((view ≡ views.Raw octets) × HoldsNoNames octets)

-- what octets hold of each kind
abbrev pub HoldsOf : ExtensionKind → List ℕ → ExtensionView → Type 0
HoldsOf kinds.SubjectKeyIdentifier octets view = IsHeld views.SubjectKeyIdentifier (IsWithin (Prints key_identifier)) octets view
HoldsOf kinds.KeyUsage octets view = IsHeld views.KeyUsage (IsWithin (Prints key_usage)) octets view
HoldsOf kinds.SubjectAltName octets view = AreNames views.SubjectAltName octets view
HoldsOf kinds.IssuerAltName octets view = AreNames views.IssuerAltName octets view
HoldsOf kinds.BasicConstraints octets view = IsHeld views.BasicConstraints (IsWithin IsBasicConstraints) octets view
HoldsOf kinds.AuthorityKeyIdentifier octets view = IsHeld views.AuthorityKeyIdentifier (IsWithin (Prints authority_key_identifier)) octets view
HoldsOf kinds.ExtendedKeyUsage octets view = IsHeld views.ExtendedKeyUsage (IsWithin (Prints extended_key_usage)) octets view
HoldsOf kinds.Other octets view = view ≡ views.Raw octets

kept_of : (kind : ExtensionKind) (octets kept : List ℕ) → MayBeKept kind kept → octets ≡ kept → HoldsOf kind octets (views.Raw kept)
kept_of kinds.SubjectKeyIdentifier octets kept may same = absurd may
kept_of kinds.KeyUsage octets kept may same = absurd may
kept_of kinds.SubjectAltName octets kept may same = inr (ap views.Raw (sym same), subst HoldsNoNames (sym same) may)
kept_of kinds.IssuerAltName octets kept may same = inr (ap views.Raw (sym same), subst HoldsNoNames (sym same) may)
kept_of kinds.BasicConstraints octets kept may same = absurd may
kept_of kinds.AuthorityKeyIdentifier octets kept may same = absurd may
kept_of kinds.ExtendedKeyUsage octets kept may same = absurd may
kept_of kinds.Other octets kept may same = ap views.Raw (sym same)

pub holds_of : (kind : ExtensionKind) (octets : List ℕ) (view : ExtensionView) → IsValueOf kind octets view → HoldsOf kind octets view
holds_of kind octets (views.SubjectKeyIdentifier x) of = subst (λ (k : ExtensionKind). HoldsOf k octets (views.SubjectKeyIdentifier x)) of.0 (x, refl, of.1)
holds_of kind octets (views.KeyUsage x) of = subst (λ (k : ExtensionKind). HoldsOf k octets (views.KeyUsage x)) of.0 (x, refl, of.1)
holds_of kind octets (views.SubjectAltName x) of = subst (λ (k : ExtensionKind). HoldsOf k octets (views.SubjectAltName x)) of.0 (inl (x, refl, of.1))
holds_of kind octets (views.IssuerAltName x) of = subst (λ (k : ExtensionKind). HoldsOf k octets (views.IssuerAltName x)) of.0 (inl (x, refl, of.1))
holds_of kind octets (views.BasicConstraints x) of = subst (λ (k : ExtensionKind). HoldsOf k octets (views.BasicConstraints x)) of.0 (x, refl, of.1)
holds_of kind octets (views.AuthorityKeyIdentifier x) of = subst (λ (k : ExtensionKind). HoldsOf k octets (views.AuthorityKeyIdentifier x)) of.0 (x, refl, of.1)
holds_of kind octets (views.ExtendedKeyUsage x) of = subst (λ (k : ExtensionKind). HoldsOf k octets (views.ExtendedKeyUsage x)) of.0 (x, refl, of.1)
holds_of kind octets (views.Raw x) of = kept_of kind octets x of.0 of.1

names_once : (named : List RawGeneralName → ExtensionView) (octets : List ℕ) (a b : ExtensionView) → AreNames named octets a → AreNames named octets b → a ≡ b
names_once named octets a b (inl p) (inl q) = p.1 ∙ ap named (within_once AreGeneralNames general_name_lists.once octets p.0 q.0 p.2 q.2) ∙ sym q.1
names_once named octets a b (inl p) (inr q) = absurd (q.1 p.0 p.2)
names_once named octets a b (inr p) (inl q) = absurd (p.1 q.0 q.2)
names_once named octets a b (inr p) (inr q) = p.0 ∙ sym q.0

holds_once : (kind : ExtensionKind) (octets : List ℕ) (a b : ExtensionView) → HoldsOf kind octets a → HoldsOf kind octets b → a ≡ b
holds_once kinds.SubjectKeyIdentifier octets a b p q =
    p.1 ∙ ap views.SubjectKeyIdentifier (within_once (Prints key_identifier) octet_strings.once octets p.0 q.0 p.2 q.2) ∙ sym q.1
holds_once kinds.KeyUsage octets a b p q = p.1 ∙ ap views.KeyUsage (within_once (Prints key_usage) key_usages.once octets p.0 q.0 p.2 q.2) ∙ sym q.1
holds_once kinds.SubjectAltName octets a b p q = names_once views.SubjectAltName octets a b p q
holds_once kinds.IssuerAltName octets a b p q = names_once views.IssuerAltName octets a b p q
holds_once kinds.BasicConstraints octets a b p q =
    p.1 ∙ ap views.BasicConstraints (within_once IsBasicConstraints all_basic_constraints.once octets p.0 q.0 p.2 q.2) ∙ sym q.1
holds_once kinds.AuthorityKeyIdentifier octets a b p q =
    p.1 ∙ ap views.AuthorityKeyIdentifier
    (within_once (Prints authority_key_identifier) authority_key_identifiers.once octets p.0 q.0 p.2 q.2) ∙ sym q.1
holds_once kinds.ExtendedKeyUsage octets a b p q =
    p.1 ∙ ap views.ExtendedKeyUsage
    (within_once (Prints extended_key_usage) extended_key_usages.once octets p.0 q.0 p.2 q.2) ∙ sym q.1
holds_once kinds.Other octets a b p q = p ∙ sym q

pub values_once : (kind : ExtensionKind) (octets : List ℕ) (a b : ExtensionView) → IsValueOf kind octets a → IsValueOf kind octets b → a ≡ b
values_once kind octets a b p q = holds_once kind octets a b (holds_of kind octets a p) (holds_of kind octets b q)

-- ---- the structure of each kind

-- The test says whether there is a value.
pub record Tells {X : Type 0} (Is : X → Type 0) (test : Bool) : Type 0 where
  pub fits : IsTrue test → (value : X) × Is value
  pub unfit : test ≡ false → (value : X) → Is value → ⊥

-- the test says whether the octets encode a value of the kind's structure, or the kind may be raw
abbrev pub TellsKind : ExtensionKind → List ℕ → Bool → Type 0
TellsKind kinds.SubjectKeyIdentifier octets test = Tells (IsWithin (Prints key_identifier) octets) test
TellsKind kinds.KeyUsage octets test = Tells (IsWithin (Prints key_usage) octets) test
TellsKind kinds.SubjectAltName octets test = test ≡ true
TellsKind kinds.IssuerAltName octets test = test ≡ true
TellsKind kinds.BasicConstraints octets test = Tells (IsWithin IsBasicConstraints octets) test
TellsKind kinds.AuthorityKeyIdentifier octets test = Tells (IsWithin (Prints authority_key_identifier) octets) test
TellsKind kinds.ExtendedKeyUsage octets test = Tells (IsWithin (Prints extended_key_usage) octets) test
TellsKind kinds.Other octets test = test ≡ true

-- why the kind's structure refuses the octets
abbrev pub RefusesKind : ExtensionKind → List ℕ → DerError → Type 0
RefusesKind kinds.SubjectKeyIdentifier octets e = RefusesShape (IsWithin (Prints key_identifier) octets) e
RefusesKind kinds.KeyUsage octets e = RefusesShape (IsWithin (Prints key_usage) octets) e
RefusesKind kinds.SubjectAltName octets e = e ≡ errors.Memory
RefusesKind kinds.IssuerAltName octets e = e ≡ errors.Memory
RefusesKind kinds.BasicConstraints octets e = RefusesShape (IsWithin IsBasicConstraints octets) e
RefusesKind kinds.AuthorityKeyIdentifier octets e = RefusesShape (IsWithin (Prints authority_key_identifier) octets) e
RefusesKind kinds.ExtendedKeyUsage octets e = RefusesShape (IsWithin (Prints extended_key_usage) octets) e
RefusesKind kinds.Other octets e = e ≡ errors.Memory

names_fit : (kind : ExtensionKind) (named : List RawGeneralName → ExtensionView) (octets : List ℕ)
    → ((names : List RawGeneralName) → IsWithin AreGeneralNames octets names → IsValueOf kind octets (named names))
    → (HoldsNoNames octets → MayBeKept kind octets) → FitsWithin AreGeneralNames octets ⊎ HoldsNoNames octets
    → (view : ExtensionView) × IsValueOf kind octets view
names_fit kind named octets is keeps (inl fit) = (named fit.0, is fit.0 fit.1)
names_fit kind named octets is keeps (inr none) = (views.Raw octets, (keeps none, refl))

pub told_value : (kind : ExtensionKind) (octets : List ℕ) (test : Bool) → FitsWithin AreGeneralNames octets ⊎ HoldsNoNames octets → TellsKind kind octets test
    → IsTrue test → (view : ExtensionView) × IsValueOf kind octets view
told_value kinds.SubjectKeyIdentifier octets test names tells holds = let fit = tells.fits holds in (views.SubjectKeyIdentifier fit.0, (refl, fit.1))
told_value kinds.KeyUsage octets test names tells holds = let fit = tells.fits holds in (views.KeyUsage fit.0, (refl, fit.1))
told_value kinds.SubjectAltName octets test names tells holds =
    names_fit kinds.SubjectAltName views.SubjectAltName octets (λ x is. (refl, is)) (λ none. none) names
told_value kinds.IssuerAltName octets test names tells holds =
    names_fit kinds.IssuerAltName views.IssuerAltName octets (λ x is. (refl, is)) (λ none. none) names
told_value kinds.BasicConstraints octets test names tells holds = let fit = tells.fits holds in (views.BasicConstraints fit.0, (refl, fit.1))
told_value kinds.AuthorityKeyIdentifier octets test names tells holds = let fit = tells.fits holds in (views.AuthorityKeyIdentifier fit.0, (refl, fit.1))
told_value kinds.ExtendedKeyUsage octets test names tells holds = let fit = tells.fits holds in (views.ExtendedKeyUsage fit.0, (refl, fit.1))
told_value kinds.Other octets test names tells holds = (views.Raw octets, (tt, refl))

inside : {X : Type 0} (named : X → ExtensionView) (Is : X → Type 0) (view : ExtensionView) → (value : X) × (view ≡ named value) × Is value
    → (value : X) × Is value
inside named Is view held = (held.0, held.2)

none_told : {X : Type 0} (Is : X → Type 0) (test : Bool) → Tells Is test → test ≡ false → (value : X) × Is value → ⊥
none_told Is test tells fails held = tells.unfit fails held.0 held.1

no_test : (test : Bool) → test ≡ true → test ≡ false → ⊥
no_test test holds fails = absurd cc

pub told_none : (kind : ExtensionKind) (octets : List ℕ) (test : Bool) → TellsKind kind octets test → test ≡ false → (view : ExtensionView)
    → IsValueOf kind octets view → ⊥
told_none kinds.SubjectKeyIdentifier octets test tells fails view of =
    none_told _ test tells fails (inside _ _ view (holds_of kinds.SubjectKeyIdentifier octets view of))
told_none kinds.KeyUsage octets test tells fails view of = none_told _ test tells fails (inside _ _ view (holds_of kinds.KeyUsage octets view of))
told_none kinds.SubjectAltName octets test tells fails view of = no_test test tells fails
told_none kinds.IssuerAltName octets test tells fails view of = no_test test tells fails
told_none kinds.BasicConstraints octets test tells fails view of =
    none_told _ test tells fails (inside _ _ view (holds_of kinds.BasicConstraints octets view of))
told_none kinds.AuthorityKeyIdentifier octets test tells fails view of =
    none_told _ test tells fails (inside _ _ view (holds_of kinds.AuthorityKeyIdentifier octets view of))
told_none kinds.ExtendedKeyUsage octets test tells fails view of =
    none_told _ test tells fails (inside _ _ view (holds_of kinds.ExtendedKeyUsage octets view of))
told_none kinds.Other octets test tells fails view of = no_test test tells fails

only_memory : {X : Type 0} (P : X → Type 0) (e : DerError) → e ≡ errors.Memory → RefusesShape P e
only_memory P e is = subst (RefusesShape P) (sym is) tt

pub kind_refused : (kind : ExtensionKind) (octets : List ℕ) (e : DerError) → RefusesKind kind octets e → RefusesShape (IsValueOf kind octets) e
kind_refused kinds.SubjectKeyIdentifier octets e refused =
    list_refused _ _ e (λ view of. inside _ _ view (holds_of kinds.SubjectKeyIdentifier octets view of)) refused
kind_refused kinds.KeyUsage octets e refused = list_refused _ _ e (λ view of. inside _ _ view (holds_of kinds.KeyUsage octets view of)) refused
kind_refused kinds.SubjectAltName octets e refused = only_memory _ e refused
kind_refused kinds.IssuerAltName octets e refused = only_memory _ e refused
kind_refused kinds.BasicConstraints octets e refused = list_refused _ _ e (λ view of. inside _ _ view (holds_of kinds.BasicConstraints octets view of)) refused
kind_refused kinds.AuthorityKeyIdentifier octets e refused =
    list_refused _ _ e (λ view of. inside _ _ view (holds_of kinds.AuthorityKeyIdentifier octets view of)) refused
kind_refused kinds.ExtendedKeyUsage octets e refused = list_refused _ _ e (λ view of. inside _ _ view (holds_of kinds.ExtendedKeyUsage octets view of)) refused
kind_refused kinds.Other octets e refused = only_memory _ e refused

-- ---- a value is determined by its kind and its octets

-- the octets are those of the value's element
abbrev IsEncoded : {X : Type 0} → (X → DerElement) → List ℕ → X → Type 0
IsEncoded written octets value = octets ≡ encoding (written value)

abbrev IsWrittenAs : ExtensionKind → List ℕ → ExtensionView → Type 0
IsWrittenAs kinds.SubjectKeyIdentifier octets view = IsHeld views.SubjectKeyIdentifier (IsEncoded key_identifier) octets view
IsWrittenAs kinds.KeyUsage octets view = IsHeld views.KeyUsage (IsEncoded key_usage) octets view
IsWrittenAs kinds.SubjectAltName octets view = IsHeld views.SubjectAltName (IsEncoded general_names) octets view
IsWrittenAs kinds.IssuerAltName octets view = IsHeld views.IssuerAltName (IsEncoded general_names) octets view
IsWrittenAs kinds.BasicConstraints octets view = IsHeld views.BasicConstraints (IsEncoded basic_constraints) octets view
IsWrittenAs kinds.AuthorityKeyIdentifier octets view = IsHeld views.AuthorityKeyIdentifier (IsEncoded authority_key_identifier) octets view
IsWrittenAs kinds.ExtendedKeyUsage octets view = IsHeld views.ExtendedKeyUsage (IsEncoded extended_key_usage) octets view
IsWrittenAs kinds.Other octets view = view ≡ views.Raw octets

written_as : (view : ExtensionView) → IsWrittenAs (kind_of_view view) (value_octets view) view
written_as (views.SubjectKeyIdentifier x) = (x, refl, refl)
written_as (views.KeyUsage x) = (x, refl, refl)
written_as (views.SubjectAltName x) = (x, refl, refl)
written_as (views.IssuerAltName x) = (x, refl, refl)
written_as (views.BasicConstraints x) = (x, refl, refl)
written_as (views.AuthorityKeyIdentifier x) = (x, refl, refl)
written_as (views.ExtendedKeyUsage x) = (x, refl, refl)
written_as (views.Raw x) = refl

written_once : (kind : ExtensionKind) (octets : List ℕ) (a b : ExtensionView) → IsWrittenAs kind octets a → IsWrittenAs kind octets b → a ≡ b
written_once kinds.SubjectKeyIdentifier octets a b p q =
    p.1 ∙ ap views.SubjectKeyIdentifier (printed_once key_identifier octet_strings p.0 q.0 (sym p.2 ∙ q.2)) ∙ sym q.1
written_once kinds.KeyUsage octets a b p q = p.1 ∙ ap views.KeyUsage (printed_once key_usage key_usages p.0 q.0 (sym p.2 ∙ q.2)) ∙ sym q.1
written_once kinds.SubjectAltName octets a b p q =
    p.1 ∙ ap views.SubjectAltName (printed_once general_names general_name_lists p.0 q.0 (sym p.2 ∙ q.2)) ∙ sym q.1
written_once kinds.IssuerAltName octets a b p q = p.1 ∙ ap views.IssuerAltName (printed_once general_names general_name_lists p.0 q.0 (sym p.2 ∙ q.2)) ∙ sym q.1
written_once kinds.BasicConstraints octets a b p q =
    p.1 ∙ ap views.BasicConstraints
    (encoded_once basic_constraints constraints_printed all_basic_constraints.formed p.0 q.0
    (sym p.2 ∙ q.2)) ∙ sym q.1
written_once kinds.AuthorityKeyIdentifier octets a b p q =
    p.1 ∙ ap views.AuthorityKeyIdentifier
    (printed_once authority_key_identifier authority_key_identifiers p.0 q.0 (sym p.2 ∙ q.2)) ∙ sym q.1
written_once kinds.ExtendedKeyUsage octets a b p q =
    p.1 ∙ ap views.ExtendedKeyUsage (printed_once extended_key_usage extended_key_usages p.0 q.0 (sym p.2 ∙ q.2)) ∙ sym q.1
written_once kinds.Other octets a b p q = p ∙ sym q

pub values_by_octets : (a b : ExtensionView) → kind_of_view a ≡ kind_of_view b → value_octets a ≡ value_octets b → a ≡ b
values_by_octets a b kind octets =
    written_once (kind_of_view b) (value_octets b) a b
    (subst (λ (o : List ℕ). IsWrittenAs (kind_of_view b) o a) octets (subst (λ (k : ExtensionKind). IsWrittenAs k (value_octets a) a) kind (written_as a)))
    (written_as b)

pub views_by_octets : (a b : ExtensionView) → view_octets a ≡ view_octets b → a ≡ b
views_by_octets a b e =
    let numbers : extension_kind_number (kind_of_view a) ≡ extension_kind_number (kind_of_view b) = cc in
    let octets : value_octets a ≡ value_octets b = cc in
    values_by_octets a b (kinds_by_number (kind_of_view a) (kind_of_view b) numbers) octets

-- ---- what is written for a value holds it

pub values_bounded : (view : ExtensionView) (octets : List ℕ) → IsValueIn octets view → AreDer (inner_value view)
values_bounded (views.SubjectKeyIdentifier x) octets p = within_bounds key_identifier octets x p
values_bounded (views.KeyUsage x) octets p = within_bounds key_usage octets x p
values_bounded (views.SubjectAltName x) octets p = within_bounds general_names octets x p
values_bounded (views.IssuerAltName x) octets p = within_bounds general_names octets x p
values_bounded (views.BasicConstraints x) octets p = (constraints_der x, tt)
values_bounded (views.AuthorityKeyIdentifier x) octets p = within_bounds authority_key_identifier octets x p
values_bounded (views.ExtendedKeyUsage x) octets p = within_bounds extended_key_usage octets x p
values_bounded (views.Raw x) octets p = tt

pub values_written : (view : ExtensionView) → AreDer (inner_value view) → IsValueIn (value_octets view) view
values_written (views.SubjectKeyIdentifier x) der = within_written (Prints key_identifier) key_identifier octet_strings x der
values_written (views.KeyUsage x) der = within_written (Prints key_usage) key_usage key_usages x der
values_written (views.SubjectAltName x) der = within_written AreGeneralNames general_names general_name_lists x der
values_written (views.IssuerAltName x) der = within_written AreGeneralNames general_names general_name_lists x der
values_written (views.BasicConstraints x) der = within_written IsBasicConstraints basic_constraints all_basic_constraints x der
values_written (views.AuthorityKeyIdentifier x) der = within_written (Prints authority_key_identifier) authority_key_identifier authority_key_identifiers x der
values_written (views.ExtendedKeyUsage x) der = within_written (Prints extended_key_usage) extended_key_usage extended_key_usages x der
values_written (views.Raw x) der = refl

-- ---- octets that hold a value are what is written for it, but for basic constraints

written_octets : {X : Type 0} (written : X → DerElement) (octets : List ℕ) (value : X)
    → IsWithin (λ (element : DerElement) (x : X). element ≡ written x) octets value → octets ≡ encoding (written value)
written_octets written octets value within = within.encoded ∙ ap encoding within.spelled

pub written_or_constraints : (octets : List ℕ) (view : ExtensionView) → IsValueIn octets view
    → (octets ≡ value_octets view) ⊎ ((b : BasicConstraints) × (view ≡ views.BasicConstraints b) × IsWithin IsBasicConstraints octets b)
written_or_constraints octets (views.SubjectKeyIdentifier x) within = inl (written_octets _ octets _ within)
written_or_constraints octets (views.KeyUsage x) within = inl (written_octets _ octets x within)
written_or_constraints octets (views.SubjectAltName x) within = inl (written_octets _ octets x within)
written_or_constraints octets (views.IssuerAltName x) within = inl (written_octets _ octets x within)
written_or_constraints octets (views.BasicConstraints x) within = inr (x, refl, within)
written_or_constraints octets (views.AuthorityKeyIdentifier x) within = inl (written_octets _ octets x within)
written_or_constraints octets (views.ExtendedKeyUsage x) within = inl (written_octets _ octets x within)
written_or_constraints octets (views.Raw x) same = inl same
