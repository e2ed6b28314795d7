-- Signature algorithms as schemes name them, and which keys sign which digests.
use Rattle.std.specs.Prelude.{Option, Some, None}
use Rattle.sig_core.specs.declared.algorithm.SigAlg.{SigAlg}
use Rattle.sig_core.specs.declared.algorithm.SigAlg.TheVariants as algs
use Rattle.sig_core.specs.declared.hash.HashAlgorithm.{HashAlgorithm}
use Rattle.sig_core.specs.declared.hash.HashAlgorithm.TheVariants.{MD5, SHA1, SHA2_224, SHA2_256, SHA2_384, SHA2_512}
use Rattle.key_core.specs.declared.ec_curve.EcCurve.{EcCurve}
use Rattle.key_core.specs.declared.ec_curve.EcCurve.TheVariants.{NistP256, NistP384, NistP521}

-- RSA with a digest algorithm
abbrev pub rsa_alg : HashAlgorithm → SigAlg
rsa_alg MD5 = algs.RsaMd5
rsa_alg SHA1 = algs.RsaSha1
rsa_alg SHA2_224 = algs.RsaSha224
rsa_alg SHA2_256 = algs.RsaSha256
rsa_alg SHA2_384 = algs.RsaSha384
rsa_alg SHA2_512 = algs.RsaSha512

-- The curve whose keys sign a digest, where there is one: the digest is no longer than an element
-- of the field, and has its strength (RFC 5480 4, RFC 5656 6.2.1).
abbrev pub curve_for : HashAlgorithm → Option EcCurve
curve_for MD5 = None
curve_for SHA1 = None
curve_for SHA2_224 = None
curve_for SHA2_256 = Some NistP256
curve_for SHA2_384 = Some NistP384
curve_for SHA2_512 = Some NistP521

-- ECDSA with keys on a curve
abbrev pub ecdsa_alg : EcCurve → SigAlg
ecdsa_alg NistP256 = algs.P256Sha256
ecdsa_alg NistP384 = algs.P384Sha384
ecdsa_alg NistP521 = algs.P521Sha512
