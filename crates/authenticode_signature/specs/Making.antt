-- When a signature is made with the certificates of signed data, and why it isn't: the steps in
-- order.
use Rattle.std.specs.Prelude.{◌≡◌, ◌≢◌, ℕ, List, [], ◌∷◌, true, Option}
use Rattle.cms_types.specs.SignedDataElements.{SignedDataElements}
use Rattle.der_core.specs.DerElement.{DerElement}
use Rattle.der_core.specs.Borrowed.{AreDer}
use Rattle.der_core.specs.Refusals.{RefusesInner, Wraps}
use Rattle.der_core.specs.Steps.{Step, AreTaken}
use Rattle.key_core.specs.SignatureRules.{RefusesSignatureBy}
use Rattle.key_core.specs.Signing.{Signs, KeyArithmetic, IsAsked, sign_rules}
use Rattle.key_core.specs.declared.private_key.PrivateKey.{PrivateKey}
use Rattle.key_core.specs.declared.signature_algorithm.SignatureAlgorithm.{SignatureAlgorithm}
use Rattle.sig_core.specs.ShaVariant.{RefusesHash, hash_of}
use Rattle.sig_core.specs.declared.hash.HashAlgorithm.{HashAlgorithm}
use Rattle.sig_core.specs.declared.hash.HashAlgorithm.TheVariants.{SHA2_224}
use Rattle.sig_core.specs.declared.sha_variant.ShaVariant.{ShaVariant}
use Rattle.x509_types.specs.CertificateElements.{CertificateElements}
use Rattle.authenticode_core.specs.SigningRules.{IsBagOf, IsForCodeSigning}
use Rattle.authenticode_core.specs.ContentRefusal.{of_der, of_signatures}
use Rattle.authenticode_core.specs.declared.error.AuthenticodeError.{AuthenticodeError}
use Rattle.authenticode_core.specs.declared.error.AuthenticodeError.TheVariants as errors
use Rattle.authenticode_parts.specs.MadeContent.{data_element}
use Rattle.authenticode_parts.specs.MadeSignature.{attributes_element}
use Rattle.authenticode_parts.specs.SignedProgram.{IsBasicName, IsSignedProgram, Program, algorithm_for, attributes_for, message_for, program_of}

-- The first certificate of the signed data, the signer's, may sign code.
pub record HasFirstForSigning (f : SignedDataElements) (first : CertificateElements)
    (others : List CertificateElements) : Type 0 where
  pub bag : IsBagOf f (first ∷ others)
  pub code_signing : IsForCodeSigning (first ∷ others) first

-- ---- steps

-- the name has only characters of the basic plane
abbrev pub name_step : Option (List ℕ) → Step AuthenticodeError
name_step name = record {
  taken = IsBasicName name;
  refused = λ e. (IsBasicName name → ⊥) × (e ≡ errors.ProgramNameCharSet);
}

-- the digest algorithm is supported
abbrev pub hash_step : HashAlgorithm → Step AuthenticodeError
hash_step hash = record {
  taken = hash ≢ SHA2_224;
  refused = Wraps errors.UnsupportedHashAlgorithmError (RefusesHash hash);
}

-- there are certificates
abbrev pub certificates_step : SignedDataElements → Step AuthenticodeError
certificates_step f = record {
  taken = (first : CertificateElements) × (others : List CertificateElements)
      × IsBagOf f (first ∷ others);
  refused = λ e. IsBagOf f [] × (e ≡ errors.NoCertificates);
}

-- the first of them may sign code (RFC 5280 4.2.1.12)
abbrev pub code_signing_step : SignedDataElements → Step AuthenticodeError
code_signing_step f = record {
  taken = (first : CertificateElements) × (others : List CertificateElements)
      × HasFirstForSigning f first others;
  refused = λ e. (first : CertificateElements) × (others : List CertificateElements)
      × IsBagOf f (first ∷ others) × (IsForCodeSigning (first ∷ others) first → ⊥)
      × (e ≡ errors.NoEKUCodeSigning);
}

-- The certificate is the first of these, and may sign code.
abbrev pub IsFirstForSigning : List CertificateElements → CertificateElements → Type 0
IsFirstForSigning bag first =
    (others : List CertificateElements) × (bag ≡ first ∷ others) × IsForCodeSigning bag first

-- There is no certificate, or the first may not sign code.
abbrev pub HasNoFirstForSigning : List CertificateElements → AuthenticodeError → Type 0
HasNoFirstForSigning [] e = e ≡ errors.NoCertificates
HasNoFirstForSigning (first ∷ others) e =
    (IsForCodeSigning (first ∷ others) first → ⊥) × (e ≡ errors.NoEKUCodeSigning)

-- elements are written, in order
abbrev pub writing_step : List DerElement → Step AuthenticodeError
writing_step elements = record {
  taken = AreDer elements;
  refused = Wraps of_der (RefusesInner elements);
}

-- the signed attributes are written, what is said about the program first
abbrev pub attributes_written : Program → List DerElement
attributes_written p = p.opus ∷ attributes_element (attributes_for p) ∷ []

-- the key signs the message
abbrev pub sealing_step : Signs → SignatureAlgorithm → PrivateKey → List ℕ → Step AuthenticodeError
sealing_step signs algorithm key message = record {
  taken = IsAsked signs algorithm key message true;
  refused = Wraps of_signatures (RefusesSignatureBy (sign_rules signs algorithm key message));
}

-- the steps of a signature by a certificate
abbrev pub program_steps : Signs → Program → PrivateKey → List (Step AuthenticodeError)
program_steps signs p key =
    writing_step (data_element p.hash p.file_hash ∷ []) ∷ writing_step (attributes_written p) ∷
    sealing_step signs (algorithm_for p) key (message_for p) ∷ []

-- The steps, in order.
abbrev pub making_steps : Signs → SignedDataElements → Option (List ℕ) → Program → PrivateKey
    → List (Step AuthenticodeError)
making_steps signs f name p key =
    name_step name ∷ hash_step (hash_of p.hash) ∷ certificates_step f ∷ code_signing_step f ∷
    program_steps signs p key

-- ---- the signature

-- The signed data is the signature of a program by the first certificate of others, which may sign
-- code: the program is given by the digest algorithm, the digest of the file, and its name, if any.
-- No step failed.
pub record IsMadeOf (scheme : KeyArithmetic) (f : SignedDataElements) (hash : ShaVariant)
    (file_hash : List ℕ) (name : Option (List ℕ)) (key : PrivateKey)
    (made : SignedDataElements) : Type 0 where
  pub basic : IsBasicName name
  pub supported : hash_of hash ≢ SHA2_224
  pub first : CertificateElements
  pub others : List CertificateElements
  pub signer : HasFirstForSigning f first others
  pub program : IsSignedProgram scheme (first ∷ others) first (program_of hash file_hash name) key
      made
  pub taken : AreTaken (making_steps scheme.signs f name (program_of hash file_hash name) key)
