-- The digest algorithms by their OIDs, and the conversions between the two types of them.
use Rattle.std.specs.Prelude.{◌≡◌, ◌≢◌, ℕ, List, Result, MatchResult}
use Rattle.asn1_types.specs.declared.oids.TheConstants as octets
use Rattle.sig_core.specs.declared.error.UnsupportedHashAlgorithmError.{UnsupportedHashAlgorithmError}
use Rattle.sig_core.specs.declared.hash.HashAlgorithm.{HashAlgorithm}
use Rattle.sig_core.specs.declared.hash.HashAlgorithm.TheVariants as hash
use Rattle.sig_core.specs.declared.sha_variant.ShaVariant.{ShaVariant}
use Rattle.sig_core.specs.declared.sha_variant.ShaVariant.TheVariants.{MD5, SHA1, SHA2_224, SHA2_256, SHA2_384, SHA2_512}

-- the contents octets of the OID (RFC 8017 appendix B.1)
abbrev pub digest_identifier : ShaVariant → List ℕ
digest_identifier MD5 = octets.MD5.now
digest_identifier SHA1 = octets.SHA1.now
digest_identifier SHA2_224 = octets.SHA224.now
digest_identifier SHA2_256 = octets.SHA256.now
digest_identifier SHA2_384 = octets.SHA384.now
digest_identifier SHA2_512 = octets.SHA512.now

-- the algorithm of a variant
abbrev pub hash_of : ShaVariant → HashAlgorithm
hash_of MD5 = hash.MD5
hash_of SHA1 = hash.SHA1
hash_of SHA2_224 = hash.SHA2_224
hash_of SHA2_256 = hash.SHA2_256
hash_of SHA2_384 = hash.SHA2_384
hash_of SHA2_512 = hash.SHA2_512

-- an algorithm is refused if it is SHA-224, which the error names
abbrev pub RefusesHash : HashAlgorithm → UnsupportedHashAlgorithmError → Type 0
RefusesHash algorithm error = (algorithm ≡ hash.SHA2_224) × (error.algorithm ≡ algorithm)

-- the result for an algorithm: the variant whose algorithm it is, but for SHA-224
abbrev pub GivesVariant : HashAlgorithm → Result ShaVariant UnsupportedHashAlgorithmError → Type 0
GivesVariant algorithm result =
    MatchResult result
    (λ variant. (hash_of variant ≡ algorithm) × (algorithm ≢ hash.SHA2_224))
    (RefusesHash algorithm)

-- the result for a variant: its algorithm, but for SHA-224
abbrev pub GivesHash : ShaVariant → Result HashAlgorithm UnsupportedHashAlgorithmError → Type 0
GivesHash variant result =
    MatchResult result
    (λ algorithm. (algorithm ≡ hash_of variant) × (algorithm ≢ hash.SHA2_224))
    (RefusesHash (hash_of variant))
