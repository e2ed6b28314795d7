-- Timestamping signed data (Windows Authenticode Portable Executable Signature Format; RFC 5652
-- 11.4).
use Rattle.std.specs.Prelude.{◌≡◌, ◌≢◌, ◌⊎◌, ⊤, ℕ, List, [], ◌∷◌, Ok, Err}
use Rattle.sig_core.specs.declared.hash.HashAlgorithm.{HashAlgorithm}
use Rattle.cms_types.specs.declared.signed_data.SignedData.{SignedData}
use Rattle.cms_types.specs.declared.signer_info.SignerInfo.{SignerInfo}
use Rattle.authenticode_core.specs.declared.error.AuthenticodeError.{AuthenticodeError}
use Rattle.authenticode_core.specs.declared.error.AuthenticodeError.TheVariants as errors
use Rattle.authenticode_core.specs.declared.timestamp_error.TimestampError.{TimestampError}
use Rattle.authenticode_core.specs.declared.timestamp_error.TimestampError.TheVariants as stamps
use Rattle.authenticode_signature.specs.Timestamper.{Giving, Modification}
use Rattle.authenticode_signature.specs.declared.pkcs7.Pkcs7.{Pkcs7}

-- There is a first signer, and these are its signature octets.
pub record HasFirstSignature (signers : List SignerInfo) (octets : List ℕ) : Type 0 where
  pub signer : SignerInfo
  pub others : List SignerInfo
  pub first : signers ≡ signer ∷ others
  pub signature : octets ≡ signer.signature

-- A token that may be issued for the signature octets of the first signer.
pub record IsTokenFor (gives : Giving) (hash : HashAlgorithm) (signed : SignedData)
    (token : Pkcs7) : Type 0 where
  pub octets : List ℕ
  pub first : HasFirstSignature signed.signers_infos octets
  pub given : gives octets hash token

-- Signed data after a modification by such a token.
pub record IsLeftByStamp (gives : Giving) (modifies : Modification) (hash : HashAlgorithm)
    (before after : SignedData) : Type 0 where
  pub token : Pkcs7
  pub given : IsTokenFor gives hash before token
  pub left : modifies token before (Ok after)

-- A modification by such a token has this error.
pub record IsRefusedStamp (gives : Giving) (modifies : Modification) (hash : HashAlgorithm)
    (before : SignedData) (e : TimestampError) : Type 0 where
  pub token : Pkcs7
  pub given : IsTokenFor gives hash before token
  pub refused : modifies token before (Err e)

-- Why signed data isn't timestamped: there is no signer, the fault count rose, or the modification
-- has the error.
abbrev pub RefusesStamp : (gives : Giving) (modifies : Modification) (risen : Type 0)
    (hash : HashAlgorithm) (before : SignedData)
    → AuthenticodeError → Type 0
RefusesStamp gives modifies risen hash before (errors.MultipleSignerInfo count) =
    (before.signers_infos ≡ []) × (count ≡ 0)
RefusesStamp gives modifies risen hash before (errors.TimestampError e) =
    (e ≢ stamps.Memory) × (risen ⊎ IsRefusedStamp gives modifies hash before e)
RefusesStamp gives modifies risen hash before errors.Memory = ⊤
RefusesStamp gives modifies risen hash before _ = ⊥

-- an error of timestamps as one of signatures
abbrev pub of_timestamp : TimestampError → AuthenticodeError
of_timestamp stamps.Memory = errors.Memory
of_timestamp (stamps.Pkcs7Error e) = errors.TimestampError (stamps.Pkcs7Error e)
of_timestamp (stamps.Asn1DerError e) = errors.TimestampError (stamps.Asn1DerError e)
of_timestamp stamps.TimestampTokenEmpty = errors.TimestampError stamps.TimestampTokenEmpty
