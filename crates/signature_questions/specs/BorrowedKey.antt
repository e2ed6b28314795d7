-- A borrowed key, and when it fits an algorithm (RFC 5280 4.1.2.7).
use Rattle.std.specs.Prelude.{◌≡◌, ℕ, List, ◌∷◌, Option, Some, None, MatchOption}
use Rattle.asn1_types.specs.Values.{identifier_contents}
use Rattle.der_core.specs.DerElement.{Primitive}
use Rattle.der_core.specs.BorrowedOption.{at_option, kept_option}
use Rattle.der_core.specs.Borrowed.{AreDer}
use Rattle.key_types.specs.AlgorithmIdentifier.{oid_of, parameters_of}
use Rattle.key_types.specs.PublicKeyInfo.{inner_key, subject_public_key}
use Rattle.key_types.specs.declared.key_info.SubjectPublicKeyInfo.{SubjectPublicKeyInfo}
use Rattle.sig_core.specs.declared.algorithm.SigAlg.{SigAlg}
use Rattle.key_core.specs.Verifying.{FitsKey}
use Rattle.key_core.specs.declared.signature_algorithm.SignatureAlgorithm.{SignatureAlgorithm}
use Rattle.signature_questions.specs.declared.borrowed_key.BorrowedKey.{BorrowedKey}

-- The parts are those of the key, whose wrapped element is within limits.
pub record LendsKey (parts : BorrowedKey) (key : SubjectPublicKeyInfo) : Type 0 where
  pub oid : parts.oid.now ≡ identifier_contents (oid_of key.algorithm)
  pub parameters : at_option parts.parameters ≡ kept_option (parameters_of key.algorithm)
  pub unused : ℕ
  pub bits : subject_public_key key.subject_public_key ≡ Primitive 0x03 (unused ∷ parts.bits.now)
  pub within : AreDer (inner_key key.subject_public_key)

-- the scheme's name of the algorithm if the key fits the algorithm, by its bits; none if it doesn't
abbrev pub FitsBorrowed : SignatureAlgorithm → BorrowedKey → Option SigAlg → Type 0
FitsBorrowed algorithm parts result =
    (key : SubjectPublicKeyInfo) → LendsKey parts key
    → MatchOption result
    ((alg : SigAlg) (bytes : List ℕ) → FitsKey algorithm key alg bytes → ⊥)
    (λ alg. FitsKey algorithm key alg parts.bits.now)
