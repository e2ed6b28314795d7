-- Octets have at most one signed data.
use Rattle.std.proofs.Common.{◌≡◌, ℕ, List, Ok, sym, ◌∙◌, subst}
use Rattle.std.specs.Prelude.{replicate}
use Rattle.cms_types.specs.Pkcs7.{pkcs7}
use Rattle.cms_types.specs.SignedDataElements.{SignedDataElements}
use Rattle.cms_types.specs.SignedView.{data_elements}
use Rattle.cms_types.specs.declared.signed_data.view.SignedView.{SignedView}
use Rattle.der_core.specs.DerElement.{DerElement}
use Rattle.der_core.specs.Encoding.{IsPaddedEncoding}
use Rattle.der_core.specs.Facts.Fronts.{fronts}
use Rattle.wincert_core.specs.Refusal.{contents_in}
use Rattle.authenticode_core.specs.Basic.{HasSignedData, LiesIn}
use Rattle.authenticode_core.proofs.FormFields.{fields_of_view, same_fields_of}

pub one_element : (octets : List ℕ) (a b : DerElement) → IsPaddedEncoding octets a → IsPaddedEncoding octets b → a ≡ b
one_element octets a b padded padded' =
    (fronts a b (replicate padded.1 0) (replicate padded'.1 0) padded.0.formed padded'.0.formed padded.0.short padded'.0.short (sym padded.3 ∙ padded'.3)).0

pub same_certificate : (octets a b : List ℕ) → contents_in octets ≡ Ok a → contents_in octets ≡ Ok b → a ≡ b
same_certificate octets a b named named' = cc (named, named')

pub one_data : (octets : List ℕ) (f g : SignedDataElements) → HasSignedData octets f → HasSignedData octets g → f ≡ g
one_data octets f g p q =
    let same = same_certificate octets p.certificate q.certificate p.named q.named in
    let element =
    one_element q.certificate (pkcs7 p.value) (pkcs7 q.value) (subst (λ (c : List ℕ). IsPaddedEncoding c (pkcs7 p.value)) same p.spelled) q.spelled in
    p.fields ∙ same_fields_of p.value.signed_data q.value.signed_data element ∙ sym q.fields

-- borrowed signed data
pub lies_there : (octets : List ℕ) (element : DerElement) (view : SignedView) → LiesIn octets element view → HasSignedData octets (data_elements view)
lies_there octets element view lies = record {
  certificate = lies.certificate;
  named = lies.named;
  value = lies.is.value;
  spelled = subst (λ (e : DerElement). IsPaddedEncoding lies.certificate e) lies.is.spelled lies.spelled;
  fields = fields_of_view element view lies.is;
}
