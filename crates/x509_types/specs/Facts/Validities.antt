-- Different validities have different elements, each well formed.
use Rattle.std.proofs.Common.{◌≡◌, [], ◌∷◌, refl, ap, ◌∙◌, arith}
use Rattle.der_core.specs.DerElement.{DerElement}
use Rattle.der_core.specs.Elements.{sequence}
use Rattle.der_core.specs.Structure.{IsGrammar}
use Rattle.der_core.specs.Facts.Grammars.{printed}
use Rattle.asn1_types.specs.Elements.{time}
use Rattle.asn1_types.specs.Facts.Elements.{times_once, times_formed}
use Rattle.asn1_types.specs.declared.time.Time.{Time}
use Rattle.x509_types.specs.Validity.{validity}
use Rattle.x509_types.specs.declared.certificate.validity.Validity.{Validity}

abbrev validity_of : Time → Time → Validity
validity_of before after = record { not_before = before; not_after = after }

same_times : (before before' after after' : Time) → before ≡ before' → after ≡ after' → validity_of before after ≡ validity_of before' after'
same_times before before' after after' p q = ap (λ (t : Time). validity_of t after) p ∙ ap (validity_of before') q

same_ends : (w x y z : DerElement) → sequence (w ∷ x ∷ []) ≡ sequence (y ∷ z ∷ []) → (w ≡ y) × (x ≡ z)
same_ends w x y z e = (cc, cc)

pub validities_once : (a b : Validity) → validity a ≡ validity b → a ≡ b
validities_once a b e =
    let ends = same_ends (time a.not_before) (time a.not_after) (time b.not_before) (time b.not_after) e in
    same_times a.not_before b.not_before a.not_after b.not_after (times_once a.not_before b.not_before ends.0) (times_once a.not_after b.not_after ends.1)

pub validities : IsGrammar (λ element value. element ≡ validity value) validity (λ value. [])
validities = printed validity validities_once
    (λ value. ((omega arith, omega arith, omega arith), refl, (times_formed value.not_before, (times_formed value.not_after, tt))))
