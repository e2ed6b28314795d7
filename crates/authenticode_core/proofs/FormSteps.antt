-- The form, step by step.
use Rattle.std.proofs.Common.{◌≡◌, ◌≢◌, ℕ, List, [], ◌∷◌, Option, Some, None, length, inl, inr, refl, sym, ap, subst, ◌∙◌}
use Rattle.std.specs.Option.{option_map}
use Rattle.asn1_types.specs.Elements.{object_identifier}
use Rattle.asn1_types.specs.Values.{identifier_contents}
use Rattle.asn1_types.specs.declared.oids.TheConstants.{SPC_INDIRECT_DATA}
use Rattle.cms_content.specs.ContentInfoElements.{content_info_of}
use Rattle.cms_content.specs.ContentValue.{content_value}
use Rattle.cms_content.specs.Facts.ContentInfos.{fields_once}
use Rattle.cms_types.specs.Facts.SignerElements.{determined_fields, same_signer}
use Rattle.cms_types.specs.Facts.SignerInfos.{determined_signer}
use Rattle.cms_types.specs.SignedDataElements.{SignedDataElements}
use Rattle.cms_types.specs.SignerElements.{SignerElements}
use Rattle.cms_types.specs.SignerInfo.{signer_info, signer_elements}
use Rattle.cms_types.specs.SignerView.{IsSignerView, signer_elements_at}
use Rattle.cms_types.specs.declared.signer_info.SignerInfo.{SignerInfo}
use Rattle.cms_types.specs.declared.signer_info.view.SignerView.{SignerView}
use Rattle.der_core.specs.Optional.{members_of}
use Rattle.der_core.specs.DerElement.{DerElement, Primitive, Constructed, kids_of}
use Rattle.der_core.specs.Elements.{sequence, octet_string}
use Rattle.der_core.specs.Encoding.{encoding}
use Rattle.der_core.specs.Rules.{IsFirstBroken}
use Rattle.authenticode_core.specs.FormRules.{HasForm, IsOfOtherVersion, HasOtherSigners, HasOtherAlgorithms, LacksContent, HasOtherContent, form_rules}
use Rattle.authenticode_core.specs.Inside.Form.{AreSpelled, IsIndirectContent}
use Rattle.authenticode_core.specs.SameElements.{IsSameElement}
use Rattle.authenticode_core.specs.SignedFields.{HasVersion, HasSignedContent, IndirectData, IsFirstAlgorithm}
use Rattle.authenticode_core.specs.SignedFields.{IsFirstSigner, digest_algorithms_of, indirect_kids, signers_of}
use Rattle.authenticode_core.specs.declared.error.AuthenticodeError.{AuthenticodeError}
use Rattle.authenticode_core.specs.declared.error.AuthenticodeError.TheVariants as errors
use Rattle.authenticode_core.specs.declared.form.Content.{Content}
use Rattle.authenticode_core.proofs.FormFields.{content_is, indirect_is_spelled, signer_is_spelled}
use Rattle.authenticode_core.proofs.FormOrder.{version_met, signers_met, algorithms_met, some_content_met, content_met, indirect_met, content_same_met}

-- ---- elements in an element

pub members_are : (element : DerElement) (kids : List DerElement) → kids_of element ≡ Some kids → members_of (Some element) ≡ kids
members_are (Primitive tag content) kids e = absurd cc
members_are (Constructed tag elements) kids e = cc

-- ---- the signer

pub signer_lies : (element : DerElement) (view : SignerView) (is : IsSignerView element view) → signer_elements_at view ≡ signer_elements is.value
signer_lies element view is = same_signer (signer_elements_at view) (signer_elements is.value) (determined_fields (signer_elements_at view) is.fields)
    (determined_signer is.value) (sym is.is ∙ is.spelled)

pub signers_are : (f : SignedDataElements) (element : DerElement) → element ≡ f.signers_infos → signers_of f ≡ members_of (Some element)
signers_are f element e = ap (λ (x : DerElement). members_of (Some x)) (sym e)

pub the_signer : (f : SignedDataElements) (element only : DerElement) (view : SignerView) → element ≡ f.signers_infos → members_of (Some element) ≡ only ∷ []
    → IsSignerView only view
    → (length (signers_of f) ≡ 1) × IsFirstSigner f (signer_elements_at view)
the_signer f element only view e one is =
    let signers : signers_of f ≡ only ∷ [] = signers_are f element e ∙ one in (
      ap length signers,
      record { value = is.value; others = []; is = signer_lies only view is; first = signers ∙ ap (λ (x : DerElement). x ∷ []) is.spelled },
    )

pub no_other_signer : (f : SignedDataElements) (element only : DerElement) → AreSpelled f → element ≡ f.signers_infos → members_of (Some element) ≡ only ∷ []
    → ((value : SignerInfo) → only ≢ signer_info value) → ⊥
no_other_signer f element only spelled e one none =
    let value = signer_is_spelled f only [] spelled (signers_are f element e ∙ one) in
    none value.0 value.1

-- ---- the digest algorithm

pub the_algorithm : (f : SignedDataElements) (element only : DerElement) → element ≡ f.digest_algorithms → members_of (Some element) ≡ only ∷ []
    → digest_algorithms_of f ≡ only ∷ []
the_algorithm f element only e one = ap (λ (x : DerElement). members_of (Some x)) (sym e) ∙ one

pub other_algorithms : (f : SignedDataElements) (element : DerElement) (count : ℕ) → element ≡ f.digest_algorithms → length (members_of (Some element)) ≢ 1
    → count ≡ length (members_of (Some element)) → HasOtherAlgorithms f (errors.IncorrectDigestAlgorithmsCount count)
other_algorithms f element count e some returned =
    let same = ap (λ (x : DerElement). length (members_of (Some x))) (sym e) in
    ((λ one. some (sym same ∙ one)), ap errors.IncorrectDigestAlgorithmsCount (returned ∙ sym same))

-- ---- the content

pub lacks_content : (f : SignedDataElements) (content_type : DerElement) → AreSpelled f → f.content_info ≡ content_info_of content_type None
    → LacksContent f errors.NoEncapsulatedContentInfo
lacks_content f content_type (v, is) e =
    let info = v.content_info in
    let spelled : f.content_info ≡ content_info_of (object_identifier info.content_type) (option_map content_value info.content) =
    ap (λ (g : SignedDataElements). g.content_info) is in
    let content = (fields_once content_type (object_identifier info.content_type) None (option_map content_value info.content) (sym e ∙ spelled)).1 in
    (identifier_contents info.content_type, spelled ∙ ap (content_info_of (object_identifier info.content_type)) (sym content), refl)

pub other_content : (f : SignedDataElements) (content_type : List ℕ) (other content : DerElement) (found : Option DerElement)
    → f.content_info ≡ content_info_of (Primitive 0x06 content_type) found → f.content_info ≡ content_info_of other (Some content)
    → content_type ≢ SPC_INDIRECT_DATA.now → IsFirstBroken (LacksContent f ∷ HasOtherContent f ∷ []) errors.NoSpcIndirectDataContent
other_content f content_type other content found p q differs =
    let has = content_is f content_type other found (Some content) p q in
    inr (some_content_met f content_type content has, inl (content_type, content, has, differs, refl))

pub the_content : (f : SignedDataElements) (content_type : List ℕ) (other element : DerElement) (found : Option DerElement) (content : Content) → AreSpelled f
    → f.content_info ≡ content_info_of (Primitive 0x06 content_type) found → f.content_info ≡ content_info_of other (Some element)
    → content_type ≡ SPC_INDIRECT_DATA.now
    → (image : DerElement) × (element ≡ sequence (image ∷ sequence (content.algorithm.is.0 ∷ octet_string content.digest.now ∷ []) ∷ []))
    × (content.elem.is.0 ≡ element)
    → (d : IndirectData) × IsIndirectContent f d content
the_content f content_type other element found content spelled p q named (image, is, same) =
    let has = content_is f content_type other found (Some element) p q in (
      record { image = image; algorithm = content.algorithm.is.0; digest = content.digest.now },
      record {
        has = subst (λ (t : List ℕ).
            HasSignedContent f t (Some (sequence (image ∷ sequence (content.algorithm.is.0 ∷ octet_string content.digest.now ∷ []) ∷ [])))) named
            (has ∙ ap (λ (x : DerElement). content_info_of (Primitive 0x06 content_type) (Some x)) is);
        is = same ∙ is;
        algorithm = refl;
        digest = refl;
      },
    )

pub no_other_content : (f : SignedDataElements) (content_type : List ℕ) (other element : DerElement) (found : Option DerElement) → AreSpelled f
    → f.content_info ≡ content_info_of (Primitive 0x06 content_type) found → f.content_info ≡ content_info_of other (Some element)
    → content_type ≡ SPC_INDIRECT_DATA.now → ((d : IndirectData) → element ≢ sequence (indirect_kids d)) → ⊥
no_other_content f content_type other element found spelled p q named none =
    let d = indirect_is_spelled f content_type element spelled (content_is f content_type other found (Some element) p q) named in
    none d.0 d.1

-- ---- all of them, in order

module _ (f : SignedDataElements) where
  module _ (version : HasVersion f 1) (one : length (signers_of f) ≡ 1) (algorithm : DerElement) (alone : digest_algorithms_of f ≡ algorithm ∷ [])
      (d : IndirectData) (content : Content) (is : IsIndirectContent f d content) where
    differs : (octets : List ℕ) → octets ≡ encoding content.algorithm.is.0 → (octets ≡ encoding algorithm → ⊥) → IsSameElement d.algorithm algorithm → ⊥
    differs octets e different same = different (e ∙ ap encoding is.algorithm ∙ same)

    first : IsFirstAlgorithm f algorithm
    first = ([], alone)

    same_content : (octets : List ℕ) → octets ≡ encoding content.algorithm.is.0 → octets ≡ encoding algorithm → IsSameElement d.algorithm algorithm
    same_content octets e same = ap encoding (sym is.algorithm) ∙ sym e ∙ same

    module _ (octets : List ℕ) (lent : octets ≡ encoding content.algorithm.is.0) (same : octets ≡ encoding algorithm) (g : SignerElements)
        (signer : IsFirstSigner f g) (named : List ℕ) (names : named ≡ encoding g.digest_algorithm) where
      pub has_form : named ≡ encoding algorithm → HasForm f algorithm d g
      has_form s = record {
        version = version;
        one_signer = one;
        one_algorithm = ap length alone;
        indirect = is.has;
        first_algorithm = first;
        same_content = same_content octets lent same;
        signer = signer;
        same_signer = sym names ∙ s;
      }
