-- Reading a member of a counter-signature.
use Rattle.std.proofs.Common.{◌≡◌, ℕ, List, Some, slice_get, sym, ap, ◌∙◌}
use Rattle.std.specs.Option.{option_map}
use Rattle.der_core.specs.DerElement.{DerElement}
use Rattle.der_core.specs.Owned.{KeptElement}
use Rattle.der_core.specs.Refusals.{RefusesShape}
use Rattle.der_core.specs.declared.error.DerError.{DerError}
use Rattle.der_core.specs.declared.error.DerError.TheVariants as errors
use Rattle.cms_types.specs.Members.{element_of_kept}
use Rattle.cms_types.specs.Pkcs7.{pkcs7}
use Rattle.cms_types.specs.SignerInfo.{signer_info}
use Rattle.cms_types.specs.declared.signed_data.pkcs7.Pkcs7Certificate.{Pkcs7Certificate}
use Rattle.cms_types.specs.declared.signer_info.SignerInfo.{SignerInfo}
use Rattle.cms_types.specs.declared.unsigned_attribute.signer_values.SignerValues.{SignerValues}
use Rattle.cms_types.specs.declared.unsigned_attribute.token_values.TokenValues.{TokenValues}
use Rattle.cms_types.proofs.SignerLaws.{signer_reads, token_reads, only_memory}

-- the member at an index, as written
pub member_found : {X : Type 0} (written : X → DerElement) (items xs : List KeptElement) (place : ℕ) (kept : KeptElement) (element : DerElement) (value : X)
    → xs ≡ items → slice_get xs place ≡ Some kept → element ≡ kept.element → element ≡ written value
    → Some (written value) ≡ option_map element_of_kept (slice_get items place)
member_found written items xs place kept element value same at is spelled =
    ap Some (sym spelled ∙ is) ∙ ap (option_map element_of_kept) (sym at ∙ ap (λ (ys : List KeptElement). slice_get ys place) same)

-- a member is refused only when out of memory
pub signer_refused : (v : SignerValues) (xs : List KeptElement) (place : ℕ) (kept : KeptElement) (element : DerElement) (e : DerError)
    → xs ≡ v.items → slice_get xs place ≡ Some kept → element ≡ kept.element → RefusesShape (λ (s : SignerInfo). element ≡ signer_info s) e → e ≡ errors.Memory
signer_refused v xs place kept element e same at is refused =
    only_memory (λ (s : SignerInfo). element ≡ signer_info s) e refused
    (λ none. signer_reads v place kept (ap (λ (ys : List KeptElement). slice_get ys place) (sym same) ∙ at) (λ s spelled. none s (is ∙ spelled)))

pub token_refused : (v : TokenValues) (xs : List KeptElement) (place : ℕ) (kept : KeptElement) (element : DerElement) (e : DerError)
    → xs ≡ v.items → slice_get xs place ≡ Some kept → element ≡ kept.element → RefusesShape (λ (p : Pkcs7Certificate). element ≡ pkcs7 p) e → e ≡ errors.Memory
token_refused v xs place kept element e same at is refused =
    only_memory (λ (p : Pkcs7Certificate). element ≡ pkcs7 p) e refused
    (λ none. token_reads v place kept (ap (λ (ys : List KeptElement). slice_get ys place) (sym same) ∙ at) (λ p spelled. none p (is ∙ spelled)))
