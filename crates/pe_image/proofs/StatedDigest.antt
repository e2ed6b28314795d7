-- The digest that the signed data in a table states, as it is read.
use Rattle.std.proofs.Common.{◌≡◌, ◌≢◌, ℕ, List, [], ◌∷◌, Option, Some, None, MatchOption, refl, sym, subst, ◌∙◌}
use Rattle.asn1_types.specs.declared.oids.TheConstants.{SPC_INDIRECT_DATA}
use Rattle.cms_content.specs.ContentInfoElements.{content_info_of}
use Rattle.cms_content.specs.Facts.ContentInfos.{fields_once}
use Rattle.cms_types.specs.SignedDataElements.{SignedDataElements}
use Rattle.der_core.specs.DerElement.{DerElement, Primitive, Constructed, row}
use Rattle.der_core.specs.Elements.{sequence, octet_string}
use Rattle.sig_core.specs.declared.hash.HashAlgorithm.{HashAlgorithm}
use Rattle.authenticode_core.specs.Basic.{HasSignedData}
use Rattle.authenticode_core.specs.SignedFields.{HasIndirectData, HasSignedContent, IndirectData, indirect_kids}
use Rattle.authenticode_core.specs.SigningRules.{NamesDigest}
use Rattle.authenticode_core.proofs.FormFields.{content_is, content_once, indirect_is_spelled}
use Rattle.authenticode_core.proofs.OneData.{one_data}
use Rattle.pe_image.specs.ImageHash.{NamesImageDigest}

-- the table states no digest by any algorithm
abbrev pub NamesNone : List ℕ → Type 0
NamesNone table = (algorithm : HashAlgorithm) → NamesImageDigest table algorithm → ⊥

pub unsigned : (table : List ℕ) → ((f : SignedDataElements) → HasSignedData table f → ⊥) → NamesNone table
unsigned table none algorithm names = none names.1.f names.1.signed

first_of : (a b c d : DerElement) → Constructed 0x30 (row (a ∷ b ∷ [])) ≡ sequence (c ∷ d ∷ []) → a ≡ c
first_of a b c d e = cc

second_of : (a b c d : DerElement) → Constructed 0x30 (row (a ∷ b ∷ [])) ≡ sequence (c ∷ d ∷ []) → b ≡ d
second_of a b c d e = cc

some_of : (a b : DerElement) → Some a ≡ Some b → a ≡ b
some_of a b e = cc

module _ (table : List ℕ) (f : SignedDataElements) (has : HasSignedData table f) where
  indirect_in : (algorithm : HashAlgorithm) (names : NamesImageDigest table algorithm) → HasIndirectData f names.1.d
  indirect_in algorithm names =
      subst (λ (x : SignedDataElements). HasIndirectData x names.1.d) (one_data table names.1.f f names.1.signed has) names.1.indirect

  pub contentless : (content_type : DerElement) → f.content_info ≡ content_info_of content_type None → NamesNone table
  contentless content_type is algorithm names =
      let same : None ≡ Some (sequence (indirect_kids names.1.d)) = (fields_once content_type (Primitive 0x06 SPC_INDIRECT_DATA.now) None
      (Some (sequence (indirect_kids names.1.d))) (sym is ∙ indirect_in algorithm names)).1 in
      absurd cc

  pub of_other_type : (content_type : List ℕ) (found : Option DerElement) → f.content_info ≡ content_info_of (Primitive 0x06 content_type) found
      → content_type ≢ SPC_INDIRECT_DATA.now → NamesNone table
  of_other_type content_type found is differs algorithm names =
      differs (content_once f content_type SPC_INDIRECT_DATA.now found (Some (sequence (indirect_kids names.1.d))) is (indirect_in algorithm names)).0

  module _ (other element : DerElement) (is : f.content_info ≡ content_info_of other (Some element)) where
    element_is : (algorithm : HashAlgorithm) (names : NamesImageDigest table algorithm) → element ≡ sequence (indirect_kids names.1.d)
    element_is algorithm names =
        some_of element (sequence (indirect_kids names.1.d)) (fields_once other (Primitive 0x06 SPC_INDIRECT_DATA.now) (Some element)
        (Some (sequence (indirect_kids names.1.d))) (sym is ∙ indirect_in algorithm names)).1

    module _ (image info : DerElement) (pair : element ≡ Constructed 0x30 (row (image ∷ info ∷ []))) where
      info_is : (algorithm : HashAlgorithm) (names : NamesImageDigest table algorithm)
          → info ≡ sequence (names.1.d.algorithm ∷ octet_string names.1.d.digest ∷ [])
      info_is algorithm names =
          second_of image info names.1.d.image (sequence (names.1.d.algorithm ∷ octet_string names.1.d.digest ∷ [])) (sym pair ∙ element_is algorithm names)

      module _ (identifier digest : DerElement) (fields : info ≡ Constructed 0x30 (row (identifier ∷ digest ∷ []))) where
        unnamed : ((hash : HashAlgorithm) → NamesDigest identifier hash → ⊥) → NamesNone table
        unnamed none algorithm names =
            let same : identifier ≡ names.1.d.algorithm =
            first_of identifier digest names.1.d.algorithm (octet_string names.1.d.digest) (sym fields ∙ info_is algorithm names) in
            none algorithm (subst (λ (x : DerElement). NamesDigest x algorithm) (sym same) names.1.named)

        module _ (content_type : List ℕ) (found : Option DerElement) (typed : f.content_info ≡ content_info_of (Primitive 0x06 content_type) found)
            (named : content_type ≡ SPC_INDIRECT_DATA.now) where
          content : HasSignedContent f content_type (Some element)
          content = content_is f content_type other found (Some element) typed is

          indirect : (d : IndirectData) × (element ≡ sequence (indirect_kids d))
          indirect = indirect_is_spelled f content_type element (has.value.signed_data, has.fields) content named

          names_one : (algorithm : HashAlgorithm) → NamesDigest identifier algorithm → NamesImageDigest table algorithm
          names_one algorithm names =
              let d = indirect.0 in
              let info_same : info ≡ sequence (d.algorithm ∷ octet_string d.digest ∷ []) =
              second_of image info d.image (sequence (d.algorithm ∷ octet_string d.digest ∷ [])) (sym pair ∙ indirect.1) in
              let same : identifier ≡ d.algorithm = first_of identifier digest d.algorithm (octet_string d.digest) (sym fields ∙ info_same) in
              let typed_so : HasSignedContent f SPC_INDIRECT_DATA.now (Some element) =
              subst (λ (t : List ℕ). HasSignedContent f t (Some element)) named content in (
                d.digest,
                record {
                  f = f;
                  d = d;
                  signed = has;
                  indirect = subst (λ (x : DerElement). HasSignedContent f SPC_INDIRECT_DATA.now (Some x)) indirect.1 typed_so;
                  named = subst (λ (x : DerElement). NamesDigest x algorithm) same names;
                  stated = refl;
                },
              )

          pub named_in : (r : Option HashAlgorithm) → MatchOption r ((hash : HashAlgorithm) → NamesDigest identifier hash → ⊥) (NamesDigest identifier)
              → MatchOption r (NamesNone table) (NamesImageDigest table)
          named_in None none = unnamed none
          named_in (Some algorithm) names = names_one algorithm names
