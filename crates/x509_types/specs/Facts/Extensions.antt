-- Extensions: an element encodes at most one, and what is written for one encodes it.
use Rattle.std.proofs.Common.{◌≡◌, ℕ, List, [], ◌∷◌, ◌++◌, refl, ap, sym, subst, ◌∙◌, arith}
use Rattle.std.specs.Prelude.{◌↔◌, IsTrue, Bool, true, false, bytes_eq}
use Rattle.std.proofs.lemmas.Slice.Eq.{bytes_eq-Decides}
use Rattle.der_core.specs.DerElement.{DerElement, Primitive, row}
use Rattle.der_core.specs.Encoding.{encoding, IsWellFormed, AreWellFormed}
use Rattle.der_core.specs.Borrowed.{AreDer}
use Rattle.der_core.specs.Facts.Equality.{same_tests}
use Rattle.der_core.specs.Facts.Fronts.{formed_encoding_once}
use Rattle.der_core.specs.Default.{IsDefaultFalse}
use Rattle.der_core.specs.Structure.{IsGrammar}
use Rattle.asn1_types.specs.Values.{identifier_contents}
use Rattle.asn1_types.specs.Elements.{object_identifier}
use Rattle.asn1_types.specs.Facts.Elements.{identifiers, same_identifier}
use Rattle.asn1_types.specs.declared.oid.ObjectIdentifier.{ObjectIdentifier}
use Rattle.der_core.specs.Default.{default_false}
use Rattle.x509_types.specs.ExtensionFields.{IsExtensionOf}
use Rattle.x509_types.specs.ExtensionView.{named_kind, extension_kind_number, kind_of_view, value_octets, inner_value, IsOfKind, IsValueIn}
use Rattle.x509_types.specs.Extension.{extension, extension_octets, IsExtension}
use Rattle.der_core.specs.Facts.Grammars.{same_fields}
use Rattle.der_core.specs.Facts.Fields.{split}
use Rattle.extension_types.specs.Facts.Constraints.{default_is, default_field, default_once}
use Rattle.x509_types.specs.Facts.ExtensionViews.{kinds_by_number, IsOfKind-prop, values_once, values_by_octets, values_bounded, values_written}
use Rattle.x509_types.specs.declared.extension.Extension.{Extension}
use Rattle.x509_types.specs.declared.extension.view.ExtensionView.{ExtensionView}

-- the fields of an element are unique
pub fields_once : (element oid oid' : DerElement) (b c : Bool) (v w : List ℕ) → IsExtensionOf element oid b v → IsExtensionOf element oid' c w
    → (oid ≡ oid') × (b ≡ c) × (v ≡ w)
fields_once element oid oid' b c v w p q =
    let kids : oid ∷ (p.flag ++ Primitive 0x04 v ∷ []) ≡ oid' ∷ (q.flag ++ Primitive 0x04 w ∷ []) =
    same_fields (oid ∷ (p.flag ++ Primitive 0x04 v ∷ [])) (oid' ∷ (q.flag ++ Primitive 0x04 w ∷ [])) (sym p.is ∙ q.is) in
    let first : oid ≡ oid' = cc in
    let others : p.flag ++ Primitive 0x04 v ∷ [] ≡ q.flag ++ Primitive 0x04 w ∷ [] = cc in
    let parts = split 0x01 p.flag q.flag (Primitive 0x04 v ∷ []) (Primitive 0x04 w ∷ [])
    (default_field p.flag b p.flagged) (default_field q.flag c q.flagged)
    (λ none e. omega (arith, e)) (λ none e. omega (arith, e)) others in
    (first, default_once q.flag b c (subst (λ (f : List DerElement). IsDefaultFalse f b) parts.0 p.flagged) q.flagged, value_once v w parts.1)
  where
    value_once : (x y : List ℕ) → Primitive 0x04 x ∷ [] ≡ Primitive 0x04 y ∷ [] → x ≡ y
    value_once x y e = cc

abbrev extension_of : (id : ObjectIdentifier) (critical : Bool) (view : ExtensionView) → IsOfKind (named_kind (identifier_contents id)) view → Extension
extension_of id critical view agrees = record { extn_id = id; critical = critical; extn_value = view; agrees = agrees }

pub same_extension : (a b : Extension) → a.extn_id ≡ b.extn_id → a.critical ≡ b.critical → a.extn_value ≡ b.extn_value → a ≡ b
same_extension a b id critical view =
    let with_view : (h : IsOfKind (named_kind (identifier_contents a.extn_id)) b.extn_value) → a ≡ extension_of a.extn_id b.critical b.extn_value h =
    subst (λ (v : ExtensionView). (h : IsOfKind (named_kind (identifier_contents a.extn_id)) v) → a ≡ extension_of a.extn_id b.critical v h) view
    (λ h. ap (λ (c : Bool). extension_of a.extn_id c a.extn_value a.agrees) critical
    ∙ ap (extension_of a.extn_id b.critical a.extn_value) (IsOfKind-prop (named_kind (identifier_contents a.extn_id)) a.extn_value a.agrees h)) in
    subst (λ (i : ObjectIdentifier). (h : IsOfKind (named_kind (identifier_contents i)) b.extn_value) → a ≡ extension_of i b.critical b.extn_value h)
    id with_view b.agrees

extensions_once : (element : DerElement) (a b : Extension) → IsExtension element a → IsExtension element b → a ≡ b
extensions_once element a b p q =
    let fields = fields_once element (object_identifier a.extn_id) (object_identifier b.extn_id) a.critical b.critical p.octets q.octets p.fields q.fields in
    let id = same_identifier a.extn_id b.extn_id fields.0 in
    let kind = named_kind (identifier_contents b.extn_id) in
    let agrees : IsOfKind kind a.extn_value = subst (λ (i : ObjectIdentifier). IsOfKind (named_kind (identifier_contents i)) a.extn_value) id a.agrees in
    same_extension a b id fields.1
    (values_once kind q.octets a.extn_value b.extn_value
    (agrees, subst (λ (o : List ℕ). IsValueIn o a.extn_value) fields.2 p.value) (b.agrees, q.value))

-- what is written has the fields of the extension
pub written_fields : (e : Extension) → IsExtensionOf (extension e) (object_identifier e.extn_id) e.critical (value_octets e.extn_value)
written_fields e = record { flag = default_false e.critical; flagged = default_is e.critical; is = refl }

-- extensions with one element and values of one kind are the same
pub extensions_determined : (a b : Extension) → kind_of_view a.extn_value ≡ kind_of_view b.extn_value → extension a ≡ extension b → a ≡ b
extensions_determined a b kind e =
    let fields = fields_once (extension b) (object_identifier a.extn_id) (object_identifier b.extn_id) a.critical b.critical (value_octets a.extn_value)
    (value_octets b.extn_value)
    (subst (λ (x : DerElement). IsExtensionOf x (object_identifier a.extn_id) a.critical (value_octets a.extn_value)) e (written_fields a))
    (written_fields b) in
    same_extension a b (same_identifier a.extn_id b.extn_id fields.0) fields.1 (values_by_octets a.extn_value b.extn_value kind fields.2)

flag_formed : (critical : Bool) (octets : List ℕ) → AreWellFormed (row (default_false critical ++ Primitive 0x04 octets ∷ []))
flag_formed true octets = (((omega arith, omega arith, omega arith), refl), (((omega arith, omega arith, omega arith), refl), tt))
flag_formed false octets = (((omega arith, omega arith, omega arith), refl), tt)

pub extensions_formed : (e : Extension) → IsWellFormed (extension e)
extensions_formed e = ((omega arith, omega arith, omega arith), refl, (identifiers.formed e.extn_id, flag_formed e.critical (value_octets e.extn_value)))

pub all_extensions : IsGrammar IsExtension extension (λ e. inner_value e.extn_value)
all_extensions = record {
  once = extensions_once;
  bounded = λ element e p. values_bounded e.extn_value p.octets p.value;
  spelled = λ e der. record { octets = value_octets e.extn_value; fields = written_fields e; value = values_written e.extn_value der };
  formed = extensions_formed;
}

pub extensions_by_octets : (a b : Extension) → extension_octets a ≡ extension_octets b → a ≡ b
extensions_by_octets a b e =
    let numbers : extension_kind_number (kind_of_view a.extn_value) ≡ extension_kind_number (kind_of_view b.extn_value) = cc in
    let octets : encoding (extension a) ≡ encoding (extension b) = cc in
    extensions_determined a b (kinds_by_number (kind_of_view a.extn_value)
    (kind_of_view b.extn_value) numbers) (formed_encoding_once (extension a) (extension b)
    (extensions_formed a) (extensions_formed b) octets)

-- A test that holds exactly if two values are the same compares their encodings, if these can be
-- written.
pub writable_decide : {X : Type 0} (spells : DerElement → X → Type 0) (written : X → DerElement) (inner : X → List DerElement) → IsGrammar spells written inner
    → (a b : X) (test : Bool) → (IsTrue test ↔ (a ≡ b)) → AreDer (inner a) → AreDer (inner b) → test ≡ bytes_eq (encoding (written a)) (encoding (written b))
writable_decide {X} spells written inner grammar a b test same der der' =
    let decides = bytes_eq-Decides (encoding (written a)) (encoding (written b)) in
    same_tests test (bytes_eq (encoding (written a)) (encoding (written b))) same (
      λ t.
          let one = formed_encoding_once (written a) (written b) (grammar.formed a) (grammar.formed b) (decides.0 t) in
          grammar.once (written b) a b (subst (λ (x : DerElement). spells x a) one (grammar.spelled a der)) (grammar.spelled b der'),
      λ e. decides.1 (ap (λ (v : X). encoding (written v)) e),
    )
