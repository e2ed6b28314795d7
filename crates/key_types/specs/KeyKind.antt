-- The kinds of public keys, by the OIDs of their algorithms.
use Rattle.std.specs.Prelude.{◌≡◌, ℕ, List, Option, Some, None, ⊤, Bool, IsTrue, ◌||◌, bytes_eq}
use Rattle.der_core.specs.DerElement.{DerElement, Primitive, Constructed}
use Rattle.asn1_types.specs.ObjectIdentifier.{IsIdentifier}
use Rattle.der_core.specs.Elements.{null}
use Rattle.der_core.specs.BorrowedOption.{kept_option}
use Rattle.asn1_types.specs.Values.{identifier_contents}
use Rattle.key_types.specs.declared.algorithm.AlgorithmIdentifier.{AlgorithmIdentifier}
use Rattle.asn1_types.specs.declared.oids.TheConstants.{RSA_ENCRYPTION, EC_PUBLIC_KEY, X25519, X448, ED25519, ED448, ML_DSA_44, ML_DSA_65, ML_DSA_87}
use Rattle.key_types.specs.declared.key_kind.KeyKind.{KeyKind}
use Rattle.key_types.specs.declared.key_kind.KeyKind.TheVariants as kinds

-- whether an OID identifies this kind of keys (RFC 3279 2.3.1, RFC 5480 2.1.1, RFC 8410 3, RFC 9881
-- 2)
abbrev pub names_kind : KeyKind → List ℕ → Bool
names_kind kinds.Rsa oid = bytes_eq oid RSA_ENCRYPTION.now
names_kind kinds.Ec oid = bytes_eq oid EC_PUBLIC_KEY.now
names_kind kinds.Ed oid =
    bytes_eq oid X25519.now || bytes_eq oid X448.now || bytes_eq oid ED25519.now
    || bytes_eq oid ED448.now
names_kind kinds.Mldsa oid =
    bytes_eq oid ML_DSA_44.now || bytes_eq oid ML_DSA_65.now || bytes_eq oid ML_DSA_87.now

-- The element is an OBJECT IDENTIFIER.
abbrev pub IsOid : DerElement → Type 0
IsOid (Primitive tag contents) = (tag ≡ 0x06) × IsIdentifier contents
IsOid (Constructed tag kids) = ⊥

-- The parameters of keys: for RSA NULL (RFC 3279 2.3.1), which may be absent here, for a point a
-- named curve (RFC 5480 2.1.1), for the others any (none in RFC 8410 3 and RFC 9881 2).
abbrev pub MayHave : KeyKind → Option DerElement → Type 0
MayHave kinds.Rsa None = ⊤
MayHave kinds.Rsa (Some parameters) = parameters ≡ null
MayHave kinds.Ec None = ⊥
MayHave kinds.Ec (Some parameters) = IsOid parameters
MayHave kinds.Ed parameters = ⊤
MayHave kinds.Mldsa parameters = ⊤

-- An OID with these contents octets and these parameters is an algorithm for keys of this kind.
pub record IsAlgorithmWith (kind : KeyKind) (oid : List ℕ)
    (parameters : Option DerElement) : Type 0 where
  pub named : IsTrue (names_kind kind oid)
  pub allowed : MayHave kind parameters

-- The algorithm is for keys of this kind.
abbrev pub IsAlgorithmOf : KeyKind → AlgorithmIdentifier → Type 0
IsAlgorithmOf kind algorithm =
    IsAlgorithmWith kind (identifier_contents algorithm.oid) (kept_option algorithm.parameters)
