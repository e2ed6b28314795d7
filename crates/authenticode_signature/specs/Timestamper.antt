-- A timestamper, which issues tokens and modifies signed data by them.
use Rattle.std.specs.Prelude.{◌↔◌, ℕ, List, Result}
use Rattle.sig_core.specs.declared.hash.HashAlgorithm.{HashAlgorithm}
use Rattle.cms_types.specs.declared.signed_data.SignedData.{SignedData}
use Rattle.authenticode_core.specs.declared.timestamp_error.TimestampError.{TimestampError}
use Rattle.authenticode_signature.specs.declared.pkcs7.Pkcs7.{Pkcs7}

-- which tokens may be issued for octets to be timestamped and a digest algorithm
abbrev pub Giving : Type 1
Giving = List ℕ → HashAlgorithm → Pkcs7 → Type 0

-- the outcome of a modification by a token of signed data: the new signed data, or an error
abbrev pub Modification : Type 1
Modification = Pkcs7 → SignedData → Result SignedData TimestampError → Type 0

-- the same tokens may be issued
abbrev pub GiveAlike : Giving → Giving → Type 0
GiveAlike gives others =
    (octets : List ℕ) (hash : HashAlgorithm) (token : Pkcs7)
    → gives octets hash token ↔ others octets hash token

-- modifications have the same outcomes
abbrev pub ModifyAlike : Modification → Modification → Type 0
ModifyAlike modifies others =
    (token : Pkcs7) (before : SignedData) (outcome : Result SignedData TimestampError)
    → modifies token before outcome ↔ others token before outcome
