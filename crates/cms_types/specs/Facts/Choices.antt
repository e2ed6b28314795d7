-- Certificates of signed data: different ones have different elements, each well formed.
use Rattle.std.proofs.Common.{◌≡◌, ◌≢◌, [], sym, ap, subst, ◌∙◌}
use Rattle.std.proofs.Props.{props}
use Rattle.der_core.specs.DerElement.{tag_of}
use Rattle.der_core.specs.Encoding.{IsWellFormed}
use Rattle.der_core.specs.Owned.{KeptElement}
use Rattle.der_core.specs.Structure.{IsGrammar}
use Rattle.der_core.specs.Facts.Grammars.{printed}
use Rattle.der_core.specs.Facts.Owned.{same_kept}
use Rattle.cms_types.specs.CertificateChoices.{certificate_choice}
use Rattle.cms_types.specs.declared.signed_data.raw_certificate.RawCertificate.{RawCertificate}
use Rattle.cms_types.specs.declared.signed_data.raw_certificate.OtherCertificate.{OtherCertificate}
use Rattle.cms_types.specs.declared.signed_data.certificate_choices.CertificateChoices.{CertificateChoices}
use Rattle.cms_types.specs.declared.signed_data.certificate_choices.CertificateChoices.TheVariants as choices

abbrev certificate_with : (element : KeptElement) → tag_of element.element ≡ 0x30 → RawCertificate
certificate_with element tagged = record { element = element; tagged = tagged }

abbrev other_with : (element : KeptElement) → tag_of element.element ≢ 0x30 → OtherCertificate
other_with element tagged = record { element = element; tagged = tagged }

tagged_prop : (element : KeptElement) → IsProp (tag_of element.element ≡ 0x30)
tagged_prop element = hlevel props

untagged_prop : (element : KeptElement) → IsProp (tag_of element.element ≢ 0x30)
untagged_prop element = hlevel props

same_certificate : (a b : RawCertificate) → a.element ≡ b.element → a ≡ b
same_certificate a b e =
    subst (λ (x : KeptElement). (h : tag_of x.element ≡ 0x30) → a ≡ certificate_with x h) e
    (λ h. ap (certificate_with a.element) (tagged_prop a.element a.tagged h)) b.tagged

same_other : (a b : OtherCertificate) → a.element ≡ b.element → a ≡ b
same_other a b e =
    subst (λ (x : KeptElement). (h : tag_of x.element ≢ 0x30) → a ≡ other_with x h) e
    (λ h. ap (other_with a.element) (untagged_prop a.element a.tagged h)) b.tagged

choices_once : (a b : CertificateChoices) → certificate_choice a ≡ certificate_choice b → a ≡ b
choices_once (choices.Certificate x) (choices.Certificate y) e = ap choices.Certificate (same_certificate x y (same_kept x.element y.element e))
choices_once (choices.Other x) (choices.Other y) e = ap choices.Other (same_other x y (same_kept x.element y.element e))
choices_once (choices.Certificate x) (choices.Other y) e = absurd (y.tagged (ap tag_of (sym e) ∙ x.tagged))
choices_once (choices.Other x) (choices.Certificate y) e = absurd (x.tagged (ap tag_of e ∙ y.tagged))

choice_formed : (value : CertificateChoices) → IsWellFormed (certificate_choice value)
choice_formed (choices.Certificate x) = x.element.der.formed
choice_formed (choices.Other x) = x.element.der.formed

pub certificate_choices : IsGrammar (λ element value. element ≡ certificate_choice value) certificate_choice (λ value. [])
certificate_choices = printed certificate_choice choices_once choice_formed
