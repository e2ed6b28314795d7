-- DigestInfo ::= SEQUENCE { digestAlgorithm DigestAlgorithmIdentifier, digest Digest }, Digest ::=
-- OCTET STRING (RFC 2315 9.4)
use Rattle.std.specs.Prelude.{[], ◌∷◌}
use Rattle.der_core.specs.DerElement.{DerElement}
use Rattle.der_core.specs.Elements.{sequence, octet_string}
use Rattle.key_types.specs.AlgorithmIdentifier.{algorithm_identifier}
use Rattle.cms_content.specs.declared.digest_info.DigestInfo.{DigestInfo}

-- the element of a digest with its algorithm
abbrev pub digest_info : DigestInfo → DerElement
digest_info info = sequence (algorithm_identifier info.oid ∷ octet_string info.digest ∷ [])
