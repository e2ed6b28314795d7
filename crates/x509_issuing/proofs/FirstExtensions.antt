-- The value of the first extension with an OID is unique.
use Rattle.std.proofs.Common.{◌≡◌, ◌≢◌, ℕ, List, [], ◌∷◌, ◌++◌, sym, ap, subst, ◌∙◌}
use Rattle.asn1_types.specs.Values.{identifier_contents}
use Rattle.x509_types.specs.FirstOfValue.{NoneHas}
use Rattle.x509_types.specs.declared.extension.Extension.{Extension}
use Rattle.x509_types.specs.declared.extension.view.ExtensionView.{ExtensionView}
use Rattle.x509_core.specs.FirstValue.{HasFirst}

none_then : (oid : List ℕ) (before after : List Extension) (e : Extension) → NoneHas oid (before ++ e ∷ after) → identifier_contents e.extn_id ≢ oid
none_then oid [] after e none = none.0
none_then oid (x ∷ before) after e none = none_then oid before after e none.1

same_first : (oid : List ℕ) (before before' after after' : List Extension) (e e' : Extension) → before ++ e ∷ after ≡ before' ++ e' ∷ after'
    → NoneHas oid before → NoneHas oid before'
    → identifier_contents e.extn_id ≡ oid → identifier_contents e'.extn_id ≡ oid → e ≡ e'
same_first oid [] [] after after' e e' same none none' named named' = cc
same_first oid [] (x ∷ before') after after' e e' same none none' named named' =
    let first : x ≡ e = cc in
    absurd (none'.0 (ap (λ (y : Extension). identifier_contents y.extn_id) first ∙ named))
same_first oid (x ∷ before) [] after after' e e' same none none' named named' =
    let first : x ≡ e' = cc in
    absurd (none.0 (ap (λ (y : Extension). identifier_contents y.extn_id) first ∙ named'))
same_first oid (x ∷ before) (y ∷ before') after after' e e' same none none' named named' =
    let rest : before ++ e ∷ after ≡ before' ++ e' ∷ after' = cc in
    same_first oid before before' after after' e e' rest none.1 none'.1 named named'

pub first_once : (oid : List ℕ) (es : List Extension) (v w : ExtensionView) → HasFirst oid es v → HasFirst oid es w → v ≡ w
first_once oid es v w p q =
    let same = same_first oid p.first.before q.first.before p.first.after q.first.after p.extension q.extension (sym p.first.are ∙ q.first.are)
    p.first.first q.first.first p.first.named q.first.named in
    sym p.valued ∙ ap (λ (e : Extension). e.extn_value) same ∙ q.valued

-- if none has the OID, there is no first one
pub none_is_first : (oid : List ℕ) (es : List Extension) (v : ExtensionView) → NoneHas oid es → HasFirst oid es v → ⊥
none_is_first oid es v none p = none_then oid p.first.before p.first.after p.extension (subst (NoneHas oid) p.first.are none) p.first.named
