-- Curve25519 and Curve448 algorithms by OID, supported or not (RFC 8410 3).
use Rattle.std.specs.Prelude.{◌≡◌, ◌≢◌, ℕ, List, ◌++◌, codes, if◌then◌else◌, bytes_eq}
use Rattle.asn1_types.specs.ObjectIdentifier.{dotted}
use Rattle.asn1_types.specs.Values.{arcs_of, identifier_contents}
use Rattle.asn1_types.specs.declared.oid.ObjectIdentifier.{ObjectIdentifier}
use Rattle.asn1_types.specs.declared.oids.TheConstants.{ED448, X448}
use Rattle.key_core.specs.EdAlgorithm.{ed_identifier, ed_text}
use Rattle.key_core.specs.declared.ed_algorithm.EdAlgorithm.{EdAlgorithm}
use Rattle.key_core.specs.declared.named_ed_algorithm.NamedEdAlgorithm.{NamedEdAlgorithm}
use Rattle.key_core.specs.declared.named_ed_algorithm.NamedEdAlgorithm.TheVariants as named

-- the contents octets of the OID
abbrev pub named_ed_identifier : NamedEdAlgorithm → List ℕ
named_ed_identifier (named.Known algorithm) = ed_identifier algorithm
named_ed_identifier (named.Unsupported oid) = identifier_contents oid.now

-- the supported algorithm with this OID, else the OID
abbrev pub IsNamedEd : ObjectIdentifier → NamedEdAlgorithm → Type 0
IsNamedEd oid (named.Known algorithm) = ed_identifier algorithm ≡ identifier_contents oid
IsNamedEd oid (named.Unsupported lent) =
    (lent.now ≡ oid)
    × ((algorithm : EdAlgorithm) → ed_identifier algorithm ≢ identifier_contents oid)

-- how an unsupported algorithm prints: two by their names, any other by its OID
abbrev pub unknown_ed_text : ObjectIdentifier → List ℕ
unknown_ed_text oid =
    if bytes_eq (identifier_contents oid) ED448.now then codes "Ed448"
    else if bytes_eq (identifier_contents oid) X448.now then codes "X448"
    else codes "Unsupported(OID: " ++ dotted (arcs_of oid) ++ codes ")"

-- how an algorithm prints
abbrev pub named_ed_text : NamedEdAlgorithm → List ℕ
named_ed_text (named.Known algorithm) = ed_text algorithm
named_ed_text (named.Unsupported oid) = unknown_ed_text oid.now
