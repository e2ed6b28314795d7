-- Which questions a check of signed data may ask a scheme, under any policy: about the signature of
-- the first signer, and about those of the certificates of its issuer path and of its time-stamp
-- token (Windows Authenticode Portable Executable Signature Format). Neither a policy nor a scheme
-- decides which they are.
use Rattle.std.specs.Prelude.{◌≡◌, ◌⊎◌, ℕ, List, [], ◌∷◌}
use Rattle.cms_types.specs.SignedDataElements.{SignedDataElements}
use Rattle.cms_types.specs.SignerElements.{SignerElements}
use Rattle.der_core.specs.Elements.{octet_string}
use Rattle.key_core.specs.declared.signature_algorithm.SignatureAlgorithm.{SignatureAlgorithm}
use Rattle.key_core.specs.declared.signature_algorithm.SignatureAlgorithm.TheVariants.{RsaPkcs1v15}
use Rattle.key_types.specs.declared.key_info.SubjectPublicKeyInfo.{SubjectPublicKeyInfo}
use Rattle.sig_core.specs.declared.hash.HashAlgorithm.{HashAlgorithm}
use Rattle.x509_core.specs.OwnedCertificate.{KeptCertificate}
use Rattle.x509_core.specs.Link.{HasKey, IsSignedWith, signed_octets}
use Rattle.x509_types.specs.CertificateElements.{CertificateElements}
use Rattle.authenticode_core.specs.Excuses.{AreOthersThan, HasToken, IsForStamping}
use Rattle.authenticode_core.specs.IssuerWalk.{IsIssuerPath}
use Rattle.authenticode_core.specs.Indices.{StandsAt}
use Rattle.authenticode_core.specs.SignedFields.{IsFirstSigner, signed_message}
use Rattle.authenticode_core.specs.SigningRules.{IsBagOf, IsSignerCertificate, NamesDigest}
use Rattle.signature_questions.specs.Question.{Question, AsksAbout}

-- It is about the signature of the first signer over its attributes, by RSA with its digest
-- algorithm, under the key of its certificate (RFC 2315 9.4).
pub record IsOfSigner (f : SignedDataElements) (q : Question) : Type 0 where
  pub g : SignerElements
  pub first : IsFirstSigner f g
  pub bag : List CertificateElements
  pub is_bag : IsBagOf f bag
  pub place : ℕ
  pub certificate : CertificateElements
  pub is_signer : IsSignerCertificate f bag place certificate
  pub hash : HashAlgorithm
  pub named : NamesDigest g.digest_algorithm hash
  pub info : SubjectPublicKeyInfo
  pub key : HasKey certificate info
  pub signature : List ℕ
  pub octets : g.signature ≡ octet_string signature
  pub asked : AsksAbout (RsaPkcs1v15 hash) info (signed_message g) signature q

-- It is about the signature of the child, under the key of the parent (RFC 5280 6.1.3 (a) (1)).
pub record IsOfLink (parent child : CertificateElements) (q : Question) : Type 0 where
  pub algorithm : SignatureAlgorithm
  pub info : SubjectPublicKeyInfo
  pub parts : IsSignedWith parent child algorithm info
  pub asked : AsksAbout algorithm info (signed_octets child) child.signature q

-- it is about one of the certificates, the child or those at the indices but the last, under the key
-- of the next one
abbrev pub IsOfLinks : List CertificateElements → CertificateElements → List ℕ → Question → Type 0
IsOfLinks bag child [] q = ⊥
IsOfLinks bag child (place ∷ places) q =
    (parent : CertificateElements) × StandsAt bag place parent
    × (IsOfLink parent child q ⊎ IsOfLinks bag parent places q)

-- The certificate of the first signer in the bag, and its issuer path.
pub record HasPath (f : SignedDataElements) (bag : List CertificateElements)
    (signer : CertificateElements) (path : List ℕ) : Type 0 where
  pub is_bag : IsBagOf f bag
  pub place : ℕ
  pub is_signer : IsSignerCertificate f bag place signer
  pub is_path : IsIssuerPath bag signer path

-- The first certificate in the bag of a time-stamp token with a certificate for time stamping, and
-- the indices of the others with another subject.
pub record HasStamp (f : SignedDataElements) (bag : List CertificateElements)
    (first : CertificateElements) (places : List ℕ) : Type 0 where
  pub t : SignedDataElements
  pub has : HasToken f t
  pub stamping : IsForStamping t bag
  pub stands : StandsAt bag 0 first
  pub others : AreOthersThan bag first places

-- what has certificates at some indices of a bag above another certificate
abbrev pub Chained : Type 1
Chained = List CertificateElements → CertificateElements → List ℕ → Type 0

-- It is about one of these certificates under the key of the next one.
pub record IsOfChained (Has : Chained) (q : Question) : Type 0 where
  pub bag : List CertificateElements
  pub child : CertificateElements
  pub places : List ℕ
  pub has : Has bag child places
  pub asked : IsOfLinks bag child places q

-- a check of the signed data may ask it: it is about the signer, its issuer path, or the token
abbrev pub IsQuestion : SignedDataElements → Question → Type 0
IsQuestion f q =
    IsOfSigner f q ⊎ (IsOfChained (HasPath f) q ⊎ IsOfChained (HasStamp f) q)

-- ---- a chain of certificates

-- a check of these certificates as a chain, the child first and its nearest parent next, may ask it:
-- it is about one of them under the key of the next one
abbrev pub IsOfChain : KeptCertificate → List KeptCertificate → Question → Type 0
IsOfChain child [] q = ⊥
IsOfChain child (parent ∷ parents) q =
    IsOfLink parent.elements child.elements q ⊎ IsOfChain parent parents q
