-- The questions about a signature, or about a chain, as a list.
use Rattle.std.specs.Prelude.{◌≡◌, ◌⊎◌, ℕ, List, [], ◌∷◌, ◌++◌, Option, Some, None, option_to_list}
use Rattle.cms_types.specs.SignedDataElements.{SignedDataElements}
use Rattle.x509_core.specs.OwnedCertificate.{KeptCertificate}
use Rattle.x509_types.specs.CertificateElements.{CertificateElements}
use Rattle.authenticode_core.specs.Indices.{StandsAt}
use Rattle.signature_questions.specs.Asked.{Chained, HasPath, HasStamp, IsOfLink, IsOfSigner}
use Rattle.signature_questions.specs.Question.{Question}

-- it is the only such question, or there is none
abbrev pub IsTheOne : (Question → Type 0) → Option Question → Type 0
IsTheOne Asked None = (q : Question) → Asked q → ⊥
IsTheOne Asked (Some q) = Asked q × ((other : Question) → Asked other → other ≡ q)

-- they are about the child and the certificates at the indices but the last, each under the key of
-- the next one, in order: one for each that the key fits
abbrev pub AreOfLinks : List CertificateElements → CertificateElements → List ℕ → List Question
    → Type 0
AreOfLinks bag child [] qs = qs ≡ []
AreOfLinks bag child (place ∷ places) qs =
    (parent : CertificateElements) × StandsAt bag place parent
    × (first : Option Question) × IsTheOne (IsOfLink parent child) first
    × (others : List Question) × (qs ≡ option_to_list first ++ others)
    × AreOfLinks bag parent places others

-- the same for certificates of a chain
abbrev pub AreOfChain : KeptCertificate → List KeptCertificate → List Question → Type 0
AreOfChain child [] qs = qs ≡ []
AreOfChain child (parent ∷ parents) qs =
    (first : Option Question) × IsTheOne (IsOfLink parent.elements child.elements) first
    × (others : List Question) × (qs ≡ option_to_list first ++ others)
    × AreOfChain parent parents others

-- they are about the certificates at these indices, and none if there are no such certificates
abbrev pub AreOfAll : Chained → List Question → Type 0
AreOfAll Has qs =
    ((bag : List CertificateElements) × (child : CertificateElements) × (places : List ℕ)
    × Has bag child places × AreOfLinks bag child places qs)
    ⊎ (((bag : List CertificateElements) (child : CertificateElements) (places : List ℕ)
    → Has bag child places → ⊥) × (qs ≡ []))

-- The questions about signed data, in their order: at most one about the signer, then those about
-- its issuer path, then those about the token.
pub record AreQuestions (f : SignedDataElements) (qs : List Question) : Type 0 where
  pub signer : Option Question
  pub path : List Question
  pub token : List Question
  pub are : qs ≡ option_to_list signer ++ (path ++ token)
  pub of_signer : IsTheOne (IsOfSigner f) signer
  pub of_path : AreOfAll (HasPath f) path
  pub of_token : AreOfAll (HasStamp f) token
