-- Key algorithms, by OID alone.
use Rattle.std.specs.Prelude.{IsTrue}
use Rattle.asn1_types.specs.Values.{identifier_contents}
use Rattle.key_types.specs.AlgorithmIdentifier.{oid_of}
use Rattle.key_types.specs.KeyKind.{names_kind}
use Rattle.key_types.specs.declared.algorithm.AlgorithmIdentifier.{AlgorithmIdentifier}
use Rattle.key_types.specs.declared.key_kind.KeyKind.{KeyKind}

-- the OID of the algorithm names keys of this kind (RFC 3279 2.3.1, RFC 5480 2.1.1, RFC 8410 3),
-- whatever its parameters
abbrev pub Names : AlgorithmIdentifier → KeyKind → Type 0
Names algorithm kind = IsTrue (names_kind kind (identifier_contents (oid_of algorithm)))
