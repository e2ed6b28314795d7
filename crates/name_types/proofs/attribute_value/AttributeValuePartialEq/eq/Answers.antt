use Rattle.std.proofs.Common.{◌↔◌, ◌≡◌, IsTrue, Bool, refl, sym, ◌∙◌}
use Rattle.std.specs.Prelude.{bytes_eq}
use Rattle.der_core.specs.Encoding.{encoding}
use Rattle.der_core.specs.Facts.Equality.{octets_decide, same_whole, unlike}
use Rattle.name_types.specs.AttributeValue.{attribute_value}
use Rattle.name_types.specs.Facts.Names.{attribute_values}
use Rattle.name_types.specs.declared.attribute_value.AttributeValue.{AttributeValue}
use Rattle.name_types.specs.declared.attribute_value.AttributeValue.TheVariants as values
use Rattle.name_types.proofs.Equal.{others_same}
use Rattle.name_types.proofs.attribute_value.AttributeValuePartialEq.eq.Goals as goal

by_octets : (a b : AttributeValue) (t : Bool) → (IsTrue t ↔ (a ≡ b)) → t ≡ bytes_eq (encoding (attribute_value a)) (encoding (attribute_value b))
by_octets a b t same = octets_decide attribute_value (λ a b e. attribute_values.once (attribute_value a) a b refl e) attribute_values.formed a b t same

pub returns-in-DirectoryString-DirectoryString-clause-same : goal.returns-in-DirectoryString-DirectoryString-clause-same
returns-in-DirectoryString-DirectoryString-clause-same c = same_whole values.DirectoryString (λ a b e. cc)
    _ _ _ _ _ c.in-DirectoryString-DirectoryString.is-0 c.in-DirectoryString-DirectoryString.is-1 c.eq.ensures.same

pub returns-in-DirectoryString-DirectoryString-clause-octets : goal.returns-in-DirectoryString-DirectoryString-clause-octets
returns-in-DirectoryString-DirectoryString-clause-octets c = by_octets _ _ _ (same_whole values.DirectoryString (λ a b e. cc)
    _ _ _ _ _ c.in-DirectoryString-DirectoryString.is-0 c.in-DirectoryString-DirectoryString.is-1 c.eq.ensures.same)

pub returns-in-Ia5String-Ia5String-clause-same : goal.returns-in-Ia5String-Ia5String-clause-same
returns-in-Ia5String-Ia5String-clause-same c =
    same_whole values.Ia5String (λ a b e. cc) _ _ _ _ _ c.in-Ia5String-Ia5String.is-0 c.in-Ia5String-Ia5String.is-1 c.eq-in-Ia5String-Ia5String.ensures.same

pub returns-in-Ia5String-Ia5String-clause-octets : goal.returns-in-Ia5String-Ia5String-clause-octets
returns-in-Ia5String-Ia5String-clause-octets c = by_octets _ _ _
    (same_whole values.Ia5String (λ a b e. cc) _ _ _ _ _ c.in-Ia5String-Ia5String.is-0 c.in-Ia5String-Ia5String.is-1 c.eq-in-Ia5String-Ia5String.ensures.same)

pub returns-in-Other-Other-clause-same : goal.returns-in-Other-Other-clause-same
returns-in-Other-Other-clause-same c = same_whole values.Other (λ a b e. cc) _ _ _ _ _ c.in-Other-Other.is-0 c.in-Other-Other.is-1
    (others_same _ _ _ _ _ c.element.ensures c.element-in-Other-Other.ensures c.eq-in-Other-Other.ensures.same)

pub returns-in-Other-Other-clause-octets : goal.returns-in-Other-Other-clause-octets
returns-in-Other-Other-clause-octets c = by_octets _ _ _ (same_whole values.Other (λ a b e. cc) _ _ _ _ _ c.in-Other-Other.is-0 c.in-Other-Other.is-1
    (others_same _ _ _ _ _ c.element.ensures c.element-in-Other-Other.ensures c.eq-in-Other-Other.ensures.same))

pub returns-in_default : goal.returns-in_default
returns-in_default c =
    let apart = unlike (λ e. c.in_default.not-DirectoryString-1 _ (sym e ∙ c.in_default.is-0)) in
    record { octets = by_octets _ _ _ apart; same = apart }

pub returns-in_default-2 : goal.returns-in_default-2
returns-in_default-2 c =
    let apart = unlike (λ e. c.in_default.not-Ia5String-1 _ (sym e ∙ c.in_default.is-0)) in
    record { octets = by_octets _ _ _ apart; same = apart }

pub returns-in_default-3 : goal.returns-in_default-3
returns-in_default-3 c =
    let apart = unlike (λ e. c.in_default.not-Other-1 _ (sym e ∙ c.in_default.is-0)) in
    record { octets = by_octets _ _ _ apart; same = apart }
