-- A signature file as this crate makes it.
use Rattle.std.specs.Option.{option_copied}
use Rattle.std.specs.Prelude.{◌≡◌, ◌≢◌, ⊤, ℕ, List, [], ◌∷◌, Option, Some, None, Result, Ok, IfOk, true, false}
use Rattle.cms_types.specs.Pkcs7.{pkcs7}
use Rattle.cms_types.specs.SignedData.{signed_data_elements}
use Rattle.cms_types.specs.SignedDataElements.{SignedDataElements}
use Rattle.cms_types.specs.declared.signed_data.pkcs7.Pkcs7Certificate.{Pkcs7Certificate}
use Rattle.der_core.specs.Encoding.{encoding, IsDer}
use Rattle.der_core.specs.Structure.{Fits}
use Rattle.der_core.specs.Rules.{AreOneUnlessMemory}
use Rattle.key_core.specs.Signing.{IsKeyPair, Pair}
use Rattle.key_core.specs.Verifying.{Judge, Accepts}
use Rattle.key_core.specs.declared.private_key.PrivateKey.{PrivateKey}
use Rattle.key_types.specs.declared.key_info.SubjectPublicKeyInfo.{SubjectPublicKeyInfo}
use Rattle.sig_core.specs.ShaVariant.{hash_of}
use Rattle.sig_core.specs.declared.hash.HashAlgorithm.TheVariants.{SHA2_224}
use Rattle.sig_core.specs.declared.sha_variant.ShaVariant.{ShaVariant}
use Rattle.wincert_core.specs.WinCert.{FitsHeader, WinCert, spelling, with_padding}
use Rattle.wincert_core.specs.declared.kinds.CertificateType.{CertificateType}
use Rattle.wincert_core.specs.declared.kinds.RevisionType.TheVariants.{WinCertificateRevision20}
use Rattle.x509_core.specs.Link.{HasKey}
use Rattle.x509_types.specs.CertificateElements.{CertificateElements, AreCertificateFields}
use Rattle.authenticode_core.specs.Basic.{HasSignedData, VouchesFor}
use Rattle.authenticode_core.specs.SigningRules.{IsBagOf, IsForCodeSigning}
use Rattle.authenticode_core.specs.Trusted.{IsTrusted}
use Rattle.authenticode_core.specs.declared.accepted.Accepted.{Accepted}
use Rattle.authenticode_core.specs.declared.accepted.Excuse.TheVariants as excuses
use Rattle.authenticode_core.specs.declared.error.CheckError.{CheckError}
use Rattle.authenticode_core.specs.declared.error.CheckError.TheVariants.{Memory}
use Rattle.authenticode_core.specs.declared.policy.Policy.{Policy}
use Rattle.authenticode_parts.specs.Carried.{IsRootCertificate}
use Rattle.authenticode_parts.specs.MadeSignature.{signature_made}
use Rattle.authenticode_parts.specs.SignedProgram.{IsBasicName, Program, algorithm_for, message_for, parts_for, program_of}

-- none of the certificates is a root
abbrev pub NoneIsRoot : List CertificateElements → Type 0
NoneIsRoot [] = ⊤
NoneIsRoot (c ∷ others) = (IsRootCertificate c → ⊥) × NoneIsRoot others

-- none of them is, unless it is the only one
abbrev pub IsAloneOrNoRoot : List CertificateElements → Type 0
IsAloneOrNoRoot [] = ⊤
IsAloneOrNoRoot (c ∷ []) = ⊤
IsAloneOrNoRoot (c ∷ d ∷ others) = NoneIsRoot (c ∷ d ∷ others)

-- each has the structure of a certificate
abbrev pub AreCertificates : List CertificateElements → Type 0
AreCertificates [] = ⊤
AreCertificates (c ∷ others) = Fits AreCertificateFields c × AreCertificates others

-- a certificate wrapped with the current revision
abbrev pub wrapped : CertificateType → List ℕ → WinCert
wrapped kind octets =
    record { revision = WinCertificateRevision20; certificate_type = kind; certificate = octets }

-- The octets are its encoding, with zeros up to a multiple of eight, which the length counts.
pub record IsSpelledWhole (octets : List ℕ) (w : WinCert) : Type 0 where
  pub fits : FitsHeader (with_padding w).certificate
  pub spelled : octets ≡ spelling (with_padding w)

-- The signed data is a signature of the program by the first of these certificates, which it
-- contains: it may sign code, and its key accepts the signature.
pub record IsMadeFor (judge : Judge) (p : Program) (first : CertificateElements)
    (others : List CertificateElements) (value : Pkcs7Certificate) : Type 0 where
  pub supported : hash_of p.hash ≢ SHA2_224
  pub are : AreCertificates (first ∷ others)
  pub rootless : IsAloneOrNoRoot (first ∷ others)
  pub code_signing : IsForCodeSigning (first ∷ others) first
  pub signature : List ℕ
  pub fields : signed_data_elements value.signed_data
      ≡ signature_made (parts_for p first (first ∷ others) signature)
  pub info : SubjectPublicKeyInfo
  pub key : HasKey first info
  pub accepted : Accepts judge (algorithm_for p) info (message_for p) signature

-- The octets are a signature file as made by the first of these certificates, which it contains,
-- for the digest of a file: with revision 2.0 and any type, and signed data in the form that signs
-- a program with some name, or none.
pub record IsMadeSignature (judge : Judge) (first : CertificateElements)
    (others : List CertificateElements) (octets : List ℕ) (file_hash : List ℕ) : Type 0 where
  pub kind : CertificateType
  pub value : Pkcs7Certificate
  pub der : IsDer (pkcs7 value)
  pub file : IsSpelledWhole octets (wrapped kind (encoding (pkcs7 value)))
  pub hash : ShaVariant
  pub name : Option (List ℕ)
  pub basic : IsBasicName name
  pub made : IsMadeFor judge (program_of hash file_hash name) first others value

-- The private key pairs with that of the first certificate, which isn't a root unless it is the
-- only one.
pub record IsMadeWith (pair : Pair) (key : PrivateKey) (first : CertificateElements)
    (others : List CertificateElements) : Type 0 where
  pub info : SubjectPublicKeyInfo
  pub has : HasKey first info
  pub pairs : IsKeyPair pair key info
  pub carried : IsRootCertificate first → others ≡ []

-- ---- its check

-- The policy checks basic validation alone, with this digest of the file: no validity, and no trust
-- list.
pub record IsBasicAlone (policy : Policy) (file_hash : List ℕ) : Type 0 where
  pub basic : policy.basic ≡ true
  pub given : policy.file_hash ≡ Some file_hash
  pub signing : policy.signing ≡ false
  pub listless : option_copied policy.list ≡ None

-- the first certificate is the signer's, without a path or an excuse
abbrev pub by_the_first : Accepted
by_the_first = record { signer = Some 0; path = []; excuse = excuses.None }

-- The result is that of the signed data in the octets, which contains these certificates and no
-- others, and vouches for the digest of a file by the first of them: it is accepted exactly where
-- it is trusted under the policy, out of memory aside.
pub record IsCheckedBy (judge : Judge) (policy : Policy) (certificates : List CertificateElements)
    (octets file_hash : List ℕ) (answer : Result Accepted CheckError) : Type 0 where
  pub f : SignedDataElements
  pub held : HasSignedData octets f
  pub bag : IsBagOf f certificates
  pub vouches : VouchesFor judge f file_hash 0
  pub trusted : IfOk answer (IsTrusted judge policy f)
  pub accepted : (a : Accepted) → IsTrusted judge policy f a
      → AreOneUnlessMemory Memory answer (Ok a)
