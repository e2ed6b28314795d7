-- The supported Curve25519 algorithms (RFC 8410 3).
use Rattle.std.specs.Prelude.{ℕ, List, codes}
use Rattle.asn1_types.specs.declared.oids.TheConstants as octets
use Rattle.key_core.specs.declared.ed_algorithm.EdAlgorithm.{EdAlgorithm}
use Rattle.key_core.specs.declared.ed_algorithm.EdAlgorithm.TheVariants.{Ed25519, X25519}

-- the contents octets of the OID (RFC 8410 3)
abbrev pub ed_identifier : EdAlgorithm → List ℕ
ed_identifier Ed25519 = octets.ED25519.now
ed_identifier X25519 = octets.X25519.now

-- how an algorithm prints
abbrev pub ed_text : EdAlgorithm → List ℕ
ed_text Ed25519 = codes "Ed25519"
ed_text X25519 = codes "X25519"
