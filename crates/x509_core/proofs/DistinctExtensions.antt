-- Of extensions with different OIDs, each is the first with its own.
use Rattle.std.proofs.Common.{◌≡◌, ◌≢◌, ℕ, List, [], ◌∷◌, ◌++◌, sym, subst}
use Rattle.asn1_types.specs.Values.{identifier_contents}
use Rattle.x509_types.specs.FirstOfValue.{NoneHas}
use Rattle.x509_types.specs.declared.extension.Extension.{Extension}
use Rattle.x509_types.specs.declared.extension.view.ExtensionView.{ExtensionView}
use Rattle.x509_core.specs.Distinct.{AreDistinct}
use Rattle.x509_core.specs.FirstValue.{HasFirst}

-- ---- one more

none_with : (oid : List ℕ) (es : List Extension) (e : Extension) → NoneHas oid es → identifier_contents e.extn_id ≢ oid → NoneHas oid (es ++ e ∷ [])
none_with oid [] e none other = (other, tt)
none_with oid (x ∷ es) e none other = (none.0, none_with oid es e none.1 other)

pub distinct_with : (es : List Extension) (e : Extension) → AreDistinct es → NoneHas (identifier_contents e.extn_id) es → AreDistinct (es ++ e ∷ [])
distinct_with [] e distinct none = (tt, tt)
distinct_with (x ∷ es) e distinct none =
    (none_with (identifier_contents x.extn_id) es e distinct.0 (λ same. none.0 (sym same)), distinct_with es e distinct.1 none.1)

-- ---- the first

other_behind : (oid : List ℕ) (before after : List Extension) (e : Extension) → NoneHas oid (before ++ e ∷ after) → identifier_contents e.extn_id ≢ oid
other_behind oid [] after e none = none.0
other_behind oid (x ∷ before) after e none = other_behind oid before after e none.1

none_before : (before after : List Extension) (e : Extension) → AreDistinct (before ++ e ∷ after) → NoneHas (identifier_contents e.extn_id) before
none_before [] after e distinct = tt
none_before (x ∷ before) after e distinct =
    (λ same. other_behind (identifier_contents x.extn_id) before after e distinct.0 (sym same), none_before before after e distinct.1)

pub first_of_distinct : (oid : List ℕ) (value : ExtensionView) (es before after : List Extension) (e : Extension) → AreDistinct es → es ≡ before ++ e ∷ after
    → identifier_contents e.extn_id ≡ oid → e.extn_value ≡ value
    → HasFirst oid es value
first_of_distinct oid value es before after e distinct are named valued = record {
  extension = e;
  first = record {
    before = before;
    after = after;
    are = are;
    first = subst (λ (id : List ℕ). NoneHas id before) named (none_before before after e (subst AreDistinct are distinct));
    named = named;
  };
  valued = valued;
}
