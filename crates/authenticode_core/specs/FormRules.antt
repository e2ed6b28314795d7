-- The form of signed data, rule by rule, in order (Windows Authenticode Portable Executable
-- Signature Format).
use Rattle.std.specs.Prelude.{◌≡◌, ◌≢◌, ℕ, List, [], ◌∷◌, length, Some, None}
use Rattle.asn1_types.specs.declared.oids.TheConstants.{SPC_INDIRECT_DATA}
use Rattle.cms_types.specs.SignedDataElements.{SignedDataElements}
use Rattle.cms_types.specs.SignerElements.{SignerElements}
use Rattle.der_core.specs.DerElement.{DerElement}
use Rattle.der_core.specs.Rules.{Rule}
use Rattle.authenticode_core.specs.SameElements.{IsSameElement}
use Rattle.authenticode_core.specs.SignedFields.{HasVersion, HasSignedContent, HasIndirectData, IndirectData}
use Rattle.authenticode_core.specs.SignedFields.{IsFirstAlgorithm, IsFirstSigner, digest_algorithms_of, signers_of}
use Rattle.authenticode_core.specs.declared.error.AuthenticodeError.{AuthenticodeError}
use Rattle.authenticode_core.specs.declared.error.AuthenticodeError.TheVariants as errors

-- The form: version 1, one signer, one digest algorithm, indirect data, and the same digest
-- algorithm in all of them.
pub record HasForm (f : SignedDataElements) (algorithm : DerElement) (d : IndirectData)
    (g : SignerElements) : Type 0 where
  pub version : HasVersion f 1
  pub one_signer : length (signers_of f) ≡ 1
  pub one_algorithm : length (digest_algorithms_of f) ≡ 1
  pub indirect : HasIndirectData f d
  pub first_algorithm : IsFirstAlgorithm f algorithm
  pub same_content : IsSameElement d.algorithm algorithm
  pub signer : IsFirstSigner f g
  pub same_signer : IsSameElement g.digest_algorithm algorithm

-- ---- rules, by what breaks them

-- the version isn't 1
abbrev pub IsOfOtherVersion : SignedDataElements → Rule AuthenticodeError
IsOfOtherVersion f e =
    (number : ℕ) × HasVersion f number × (number ≢ 1) × (e ≡ errors.IncorrectVersion 1 number)

-- no signer, or several
abbrev pub HasOtherSigners : SignedDataElements → Rule AuthenticodeError
HasOtherSigners f e =
    (length (signers_of f) ≢ 1) × (e ≡ errors.MultipleSignerInfo (length (signers_of f)))

-- no digest algorithm, or several
abbrev pub HasOtherAlgorithms : SignedDataElements → Rule AuthenticodeError
HasOtherAlgorithms f e =
    (length (digest_algorithms_of f) ≢ 1)
    × (e ≡ errors.IncorrectDigestAlgorithmsCount (length (digest_algorithms_of f)))

-- the content is absent
abbrev pub LacksContent : SignedDataElements → Rule AuthenticodeError
LacksContent f e =
    (content_type : List ℕ) × HasSignedContent f content_type None
    × (e ≡ errors.NoEncapsulatedContentInfo)

-- the content has another type
abbrev pub HasOtherContent : SignedDataElements → Rule AuthenticodeError
HasOtherContent f e =
    (content_type : List ℕ) × (content : DerElement)
    × HasSignedContent f content_type (Some content) × (content_type ≢ SPC_INDIRECT_DATA.now)
    × (e ≡ errors.NoSpcIndirectDataContent)

-- the digest algorithm of the content isn't the first one
abbrev pub ContentDiffers : SignedDataElements → Rule AuthenticodeError
ContentDiffers f e =
    (algorithm : DerElement) × (d : IndirectData) × IsFirstAlgorithm f algorithm
    × HasIndirectData f d × (IsSameElement d.algorithm algorithm → ⊥)
    × (e ≡ errors.DigestAlgorithmMismatch)

-- the digest algorithm of the signer isn't the first one
abbrev pub SignerDiffers : SignedDataElements → Rule AuthenticodeError
SignerDiffers f e =
    (algorithm : DerElement) × (g : SignerElements) × IsFirstAlgorithm f algorithm
    × IsFirstSigner f g × (IsSameElement g.digest_algorithm algorithm → ⊥)
    × (e ≡ errors.DigestAlgorithmMismatch)

-- the digest of the file isn't the expected one
abbrev pub FileDiffers : SignedDataElements → List ℕ → Rule AuthenticodeError
FileDiffers f file_hash e =
    (d : IndirectData) × HasIndirectData f d × (d.digest ≢ file_hash)
    × (e ≡ errors.FileHashMismatch d.digest file_hash)

-- The rules of the form, in order.
abbrev pub form_rules : SignedDataElements → List (Rule AuthenticodeError)
form_rules f =
    IsOfOtherVersion f ∷ HasOtherSigners f ∷ HasOtherAlgorithms f ∷ LacksContent f ∷
    HasOtherContent f ∷ ContentDiffers f ∷ SignerDiffers f ∷ []
