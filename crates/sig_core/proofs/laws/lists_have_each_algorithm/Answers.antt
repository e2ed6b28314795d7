use Rattle.std.proofs.Common.{refl, lit<}
use Rattle.std.specs.Prelude.{Contains}
use Rattle.sig_core.specs.declared.hash.HashAlgorithm.{HashAlgorithm}
use Rattle.sig_core.specs.declared.hash.HashAlgorithm.TheVariants.{MD5, SHA1, SHA2_224, SHA2_256, SHA2_384, SHA2_512}
use Rattle.sig_core.specs.declared.hash.TheConstants.HashAlgorithm.{ALL}
use Rattle.sig_core.proofs.Names.{has_each}
use Rattle.sig_core.proofs.Variants as variants
use Rattle.sig_core.proofs.laws.lists_have_each_algorithm.Goals as goal

pub returns-clause-each_signature : goal.returns-clause-each_signature
returns-clause-each_signature c = has_each

has_each_digest : (hash : HashAlgorithm) → Contains ALL hash
has_each_digest MD5 = (0, lit< tt, refl)
has_each_digest SHA1 = (1, lit< tt, refl)
has_each_digest SHA2_224 = (2, lit< tt, refl)
has_each_digest SHA2_256 = (3, lit< tt, refl)
has_each_digest SHA2_384 = (4, lit< tt, refl)
has_each_digest SHA2_512 = (5, lit< tt, refl)

pub returns-clause-each_digest : goal.returns-clause-each_digest
returns-clause-each_digest c = has_each_digest

pub returns-clause-each_variant : goal.returns-clause-each_variant
returns-clause-each_variant c = variants.has_each
