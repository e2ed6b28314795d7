-- What the views of signed data and of signers borrow.
use Rattle.std.proofs.Common.{◌≡◌, ◌≢◌, ℕ, List, Option, Some, refl, sym, ap, subst, ◌∙◌}
use mathlib.Core.Logic.{∥∥₁_elim}
use Rattle.std.proofs.Props.{props}
use Rattle.std.proofs.lemmas.Grind.{merely}
use Rattle.der_core.specs.DerElement.{DerElement, tag_of}
use Rattle.der_core.specs.Elements.{octet_string}
use Rattle.der_core.specs.Encoding.{form_bit, IsDer}
use Rattle.der_core.specs.Structure.{Fits}
use Rattle.cms_content.specs.ContentInfo.{content_info}
use Rattle.cms_content.specs.declared.content_info.EncapsulatedContentInfo.{EncapsulatedContentInfo}
use Rattle.cms_types.specs.CmsVersion.{cms_version}
use Rattle.cms_types.specs.SignerElements.{SignerElements, signer_of}
use Rattle.cms_types.specs.SignedDataElements.{SignedDataElements, signed_data_of}
use Rattle.cms_types.specs.Levels.{OfOption, IsConstructed, AreSignerFields, IsSignerOf, AreSignedDataFields, IsSignedDataOf}
use Rattle.cms_types.specs.Signers.{IsSignerInfo, IsSignedData, Signed}
use Rattle.cms_types.specs.SignerSet.{IsSetOfSigners}
use Rattle.cms_types.specs.declared.version.CmsVersion.{CmsVersion}
use Rattle.cms_types.specs.Pkcs7Elements.{pkcs7_of}
use Rattle.cms_types.specs.Pkcs7.{pkcs7}
use Rattle.cms_types.specs.SignedData.{signed_data_elements, signed_data}
use Rattle.cms_types.specs.SignerInfo.{signer_elements, signer_info}
use Rattle.cms_types.specs.declared.signed_data.pkcs7.Pkcs7Certificate.{Pkcs7Certificate}
use Rattle.cms_types.specs.declared.signer_info.SignerInfo.{SignerInfo}
use Rattle.cms_types.proofs.Signers.{data_signers}
use Rattle.cms_types.proofs.SignerLaws.{level_of_data, data_of_value, value_of_data, level_of_signer, signer_of_value, no_value}

-- ---- signed data

abbrev Viewed : SignedDataElements → Type 0
Viewed f = ∥ AreSignedDataFields f × IsSignedData (signed_data_of f) ∥₁

pub data_has_version : (f : SignedDataElements) → Viewed f → ((v : CmsVersion) → f.version ≢ cms_version v) → ⊥
data_has_version f fits none = ∥∥₁_elim fits (λ x y. absurd x) (λ h. none h.0.version.0 h.0.version.1)

pub data_content : (f : SignedDataElements) → Viewed f → ∥ ((info : EncapsulatedContentInfo) × (f.content_info ≡ content_info info)) ∥₁
data_content f fits = ∥∥₁_elim fits (λ x y. squash₁ x y) (λ h. merely h.0.content_info)

bit_prop : (e : DerElement) → IsProp (form_bit (tag_of e) ≡ 1)
bit_prop e = hlevel props

bit_of : (tag : ℕ) (e : DerElement) → form_bit tag ≡ 1 → IsConstructed tag e → form_bit (tag_of e) ≡ 1
bit_of tag e bit is = ap (λ (x : DerElement). form_bit (tag_of x)) is.1 ∙ bit

pub algorithms_bit : (f : SignedDataElements) → Viewed f → form_bit (tag_of f.digest_algorithms) ≡ 1
algorithms_bit f fits =
    ∥∥₁_elim fits (bit_prop f.digest_algorithms) (λ h. bit_of 0x31 f.digest_algorithms refl (h.0.digest_algorithms.1.kids, h.0.digest_algorithms.1.holds))

pub signers_bit : (f : SignedDataElements) → Viewed f → form_bit (tag_of f.signers_infos) ≡ 1
signers_bit f fits = ∥∥₁_elim fits (bit_prop f.signers_infos) (λ h. bit_of 0x31 f.signers_infos refl h.0.signers_infos)

held_option : (tag : ℕ) (a : Option DerElement) (e : DerElement) → OfOption (IsConstructed tag) a → a ≡ Some e → IsConstructed tag e
held_option tag a e is same = subst (OfOption (IsConstructed tag)) same is

pub certificates_bit : (f : SignedDataElements) (e : DerElement) → Viewed f → f.certificates ≡ Some e → form_bit (tag_of e) ≡ 1
certificates_bit f e fits same = ∥∥₁_elim fits (bit_prop e) (λ h. bit_of 0xA0 e refl (held_option 0xA0 f.certificates e h.0.certificates same))

-- ---- signers

abbrev ViewedSigner : SignerElements → Type 0
ViewedSigner f = ∥ AreSignerFields f × IsSignerInfo (signer_of f) ∥₁

pub signer_has_version : (f : SignerElements) → ViewedSigner f → ((v : CmsVersion) → f.version ≢ cms_version v) → ⊥
signer_has_version f fits none = ∥∥₁_elim fits (λ x y. absurd x) (λ h. none h.0.version.0 h.0.version.1)

pub signer_has_signature : (f : SignerElements) → ViewedSigner f → ((octets : List ℕ) → f.signature ≢ octet_string octets) → ⊥
signer_has_signature f fits none = ∥∥₁_elim fits (λ x y. absurd x) (λ h. none h.0.signature.0 h.0.signature.1)

-- ---- reading

pkcs7_once : (a b : DerElement) → pkcs7_of a ≡ pkcs7_of b → a ≡ b
pkcs7_once a b e = cc

inside_of : (e inner : DerElement) (p : Pkcs7Certificate) → e ≡ pkcs7_of inner → e ≡ pkcs7 p → inner ≡ signed_data p.signed_data
inside_of e inner p is spelled = pkcs7_once inner (signed_data p.signed_data) (sym is ∙ spelled)

pub no_data_fields : (e inner : DerElement) (p : Pkcs7Certificate) → e ≡ pkcs7_of inner → e ≡ pkcs7 p
    → ((f : SignedDataElements) → IsSignedDataOf inner f → ⊥) → ⊥
no_data_fields e inner p is spelled none = none (signed_data_elements p.signed_data) (level_of_data inner p.signed_data (inside_of e inner p is spelled))

pub not_signers : (e inner : DerElement) (f : SignedDataElements) (p : Pkcs7Certificate) → e ≡ pkcs7_of inner → e ≡ pkcs7 p → IsSignedDataOf inner f
    → ((signers : List DerElement) → IsSetOfSigners f.signers_infos signers → ⊥) → ⊥
not_signers e inner f p is spelled of none =
    let set_of = of.fields.signers_infos in
    no_value (data_of_value inner p.signed_data (inside_of e inner p is spelled))
    (λ held. none set_of.0 (set_of.1, data_signers inner f set_of.0 held of set_of.1))

-- the level and its signers make signed data
pub data_held : (inner : DerElement) (f : SignedDataElements) → IsSignedDataOf inner f → Fits IsSetOfSigners f.signers_infos → IsSignedData inner
data_held inner f of held = Signed of held.1.0 held.1.1

pub viewed_value : (inner : DerElement) (f : SignedDataElements) → IsSignedDataOf inner f → IsSignedData inner
    → AreSignedDataFields f × IsSignedData (signed_data_of f)
viewed_value inner f of held = (of.fields, subst IsSignedData of.is held)

pub read_value : (e inner : DerElement) (f : SignedDataElements) → IsDer inner → e ≡ pkcs7_of inner → IsSignedDataOf inner f → IsSignedData inner
    → (e ≡ pkcs7_of (signed_data_of f)) × ((p : Pkcs7Certificate) × (e ≡ pkcs7 p))
read_value e inner f der is of held =
    let d = value_of_data inner der held in
    (is ∙ ap pkcs7_of of.is, (record { signed_data = d.0 }, is ∙ ap pkcs7_of d.1))

pub no_signer_fields : (e : DerElement) (s : SignerInfo) → e ≡ signer_info s → ((f : SignerElements) → IsSignerOf e f → ⊥) → ⊥
no_signer_fields e s is none = no_value (level_of_signer e s is) (none (signer_elements s))

pub not_signer : (e : DerElement) (s : SignerInfo) → e ≡ signer_info s → (IsSignerInfo e → ⊥) → ⊥
not_signer e s is none = no_value (signer_of_value e s is) none

pub viewed_signer : (e : DerElement) (f : SignerElements) → IsSignerOf e f → IsSignerInfo e → AreSignerFields f × IsSignerInfo (signer_of f)
viewed_signer e f of held = (of.fields, subst IsSignerInfo of.is held)
