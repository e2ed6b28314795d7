-- The digests of a message: MD5 of RFC 1321, SHA-1 and SHA-2 of FIPS 180-4.
use Rattle.std.specs.Prelude.{ℕ, List, codes}
use Rattle.md5.specs.Md5.{md5}
use Rattle.sha1.specs.Sha1.{sha1}
use Rattle.sha2.specs.Sha256.{sha224, sha256}
use Rattle.sha2.specs.Sha512.{sha384, sha512}
use Rattle.sig_core.specs.declared.hash.HashAlgorithm.{HashAlgorithm}
use Rattle.sig_core.specs.declared.hash.HashAlgorithm.TheVariants.{MD5, SHA1, SHA2_224, SHA2_256, SHA2_384, SHA2_512}

-- the digest of a message
abbrev pub digest_of : HashAlgorithm → List ℕ → List ℕ
digest_of MD5 msg = md5 msg
digest_of SHA1 msg = sha1 msg
digest_of SHA2_224 msg = sha224 msg
digest_of SHA2_256 msg = sha256 msg
digest_of SHA2_384 msg = sha384 msg
digest_of SHA2_512 msg = sha512 msg

-- how many octets a digest has
abbrev pub digest_size : HashAlgorithm → ℕ
digest_size MD5 = 16
digest_size SHA1 = 20
digest_size SHA2_224 = 28
digest_size SHA2_256 = 32
digest_size SHA2_384 = 48
digest_size SHA2_512 = 64

-- the name of an algorithm (RFC 1321, FIPS 180-4)
abbrev pub digest_name : HashAlgorithm → List ℕ
digest_name MD5 = codes "MD5"
digest_name SHA1 = codes "SHA-1"
digest_name SHA2_224 = codes "SHA-224"
digest_name SHA2_256 = codes "SHA-256"
digest_name SHA2_384 = codes "SHA-384"
digest_name SHA2_512 = codes "SHA-512"
