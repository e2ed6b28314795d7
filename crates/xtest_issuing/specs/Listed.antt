-- When a scheme lists the signatures of an issuing history alone.
use Rattle.std.specs.Prelude.{◌≡◌, ℕ, List, All}
use Rattle.key_core.specs.Verifying.{FitsKey}
use Rattle.key_core.specs.declared.signature_algorithm.SignatureAlgorithm.{SignatureAlgorithm}
use Rattle.key_types.specs.declared.key_info.SubjectPublicKeyInfo.{SubjectPublicKeyInfo}
use Rattle.sig_core.specs.declared.algorithm.SigAlg.{SigAlg}
use Rattle.x509_core.specs.History.{History}
use Rattle.x509_core.specs.Issued.{HasCert, IsSignedUnder}
use Rattle.x509_core.specs.OwnedCertificate.{KeptCertificate}
use Rattle.x509_core.specs.Link.{HasKey, signed_octets}
use Rattle.xtest_issuing.specs.declared.whole_rows.WholeRow.{WholeRow}

-- A scheme knows the key of the certificate by these octets, under some algorithm.
pub record HasKeyBytes (cert : KeptCertificate) (bytes : List ℕ) : Type 0 where
  pub info : SubjectPublicKeyInfo
  pub has : HasKey cert.elements info
  pub algorithm : SignatureAlgorithm
  pub alg : SigAlg
  pub fits : FitsKey algorithm info alg bytes

-- no two of the certificates have the same key bytes
abbrev pub HaveOwnKeys : List KeptCertificate → Type 0
HaveOwnKeys certificates =
    (i j : ℕ) (a b : KeptCertificate) (bytes : List ℕ)
    → HasCert certificates i a → HasCert certificates j b
    → HasKeyBytes a bytes → HasKeyBytes b bytes → i ≡ j

-- The row has what is signed of a certificate of the history, and the key bytes of the one that
-- signed it: its issuer, or itself if it is a root.
pub record IsListed (history : History) (certificates : List KeptCertificate) (row : WholeRow)
    : Type 0 where
  pub index : ℕ
  pub signer : ℕ
  pub under : IsSignedUnder history index signer
  pub cert : KeptCertificate
  pub is : HasCert certificates index cert
  pub message : row.msg ≡ signed_octets cert.elements
  pub parent : KeptCertificate
  pub has : HasCert certificates signer parent
  pub key : HasKeyBytes parent row.key

-- each row does
abbrev pub AreListed : History → List KeptCertificate → List WholeRow → Type 0
AreListed history certificates rows = All (IsListed history certificates) rows
