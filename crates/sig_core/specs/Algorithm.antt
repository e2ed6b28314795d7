-- Signature algorithms: the name and the kind of key of each.
use Rattle.std.specs.Prelude.{ℕ, List, codes}
use Rattle.sig_core.specs.declared.algorithm.SigAlg.{SigAlg}
use Rattle.sig_core.specs.declared.algorithm.SigAlg.TheVariants.{RsaMd5, RsaSha1, RsaSha224, RsaSha256, RsaSha384}
use Rattle.sig_core.specs.declared.algorithm.SigAlg.TheVariants.{RsaSha512, P256Sha256, P384Sha384, P521Sha512, Ed25519}
use Rattle.sig_core.specs.declared.algorithm.SchemeKind as kind
use Rattle.sig_core.specs.declared.algorithm.SchemeKind.{SchemeKind}

-- the name of an algorithm in a verdict table
abbrev pub name_of : SigAlg → List ℕ
name_of RsaMd5 = codes "rsa-md5"
name_of RsaSha1 = codes "rsa-sha1"
name_of RsaSha224 = codes "rsa-sha224"
name_of RsaSha256 = codes "rsa-sha256"
name_of RsaSha384 = codes "rsa-sha384"
name_of RsaSha512 = codes "rsa-sha512"
name_of P256Sha256 = codes "p256-sha256"
name_of P384Sha384 = codes "p384-sha384"
name_of P521Sha512 = codes "p521-sha512"
name_of Ed25519 = codes "ed25519"

-- the kind of key that an algorithm takes, the first part of its name
abbrev pub kind_of_algorithm : SigAlg → SchemeKind
kind_of_algorithm RsaMd5 = kind.TheVariants.Rsa
kind_of_algorithm RsaSha1 = kind.TheVariants.Rsa
kind_of_algorithm RsaSha224 = kind.TheVariants.Rsa
kind_of_algorithm RsaSha256 = kind.TheVariants.Rsa
kind_of_algorithm RsaSha384 = kind.TheVariants.Rsa
kind_of_algorithm RsaSha512 = kind.TheVariants.Rsa
kind_of_algorithm P256Sha256 = kind.TheVariants.P256
kind_of_algorithm P384Sha384 = kind.TheVariants.P384
kind_of_algorithm P521Sha512 = kind.TheVariants.P521
kind_of_algorithm Ed25519 = kind.TheVariants.Ed25519
