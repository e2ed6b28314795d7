-- That an algorithm is for keys of a kind has at most one proof, and an OID identifies one kind.
use Rattle.std.proofs.Common.{◌≡◌, ◌∙◌, IsTrue, ℕ, List, Option, Some, None, refl, sym, subst, inl, inr}
use Rattle.std.specs.Prelude.{Bool, if◌then◌else◌, bytes_eq}
use Rattle.std.specs.Coded.{×_prop, Unit-prop, Coded-set, coded_ℕ, coded_bool}
use Rattle.std.proofs.lemmas.Bool.{or_cases}
use Rattle.std.proofs.lemmas.Slice.Eq.{bytes_eq-Decides}
use Rattle.der_core.specs.DerElement.{DerElement, Primitive, Constructed}
use Rattle.der_core.specs.Elements.{null}
use Rattle.der_core.specs.BorrowedOption.{kept_option}
use Rattle.der_core.specs.Facts.Codes.{coded_element}
use Rattle.asn1_types.specs.Values.{identifier_contents}
use Rattle.asn1_types.specs.Facts.OneIdentifier.{IsIdentifier-prop}
use Rattle.asn1_types.specs.declared.oids.TheConstants.{RSA_ENCRYPTION, EC_PUBLIC_KEY, X25519, X448, ED25519, ED448, ML_DSA_44, ML_DSA_65, ML_DSA_87}
use Rattle.key_types.specs.KeyKind.{names_kind, IsOid, MayHave, IsAlgorithmWith, IsAlgorithmOf}
use Rattle.key_types.specs.declared.algorithm.AlgorithmIdentifier.{AlgorithmIdentifier}
use Rattle.key_types.specs.declared.key_kind.KeyKind.{KeyKind}
use Rattle.key_types.specs.declared.key_kind.KeyKind.TheVariants as kinds

pub IsOid-prop : (element : DerElement) → IsProp (IsOid element)
IsOid-prop (Primitive tag contents) = ×_prop (Coded-set coded_ℕ tag 6) (IsIdentifier-prop contents)
IsOid-prop (Constructed tag kids) = λ a b. absurd a

MayHave-prop : (kind : KeyKind) (parameters : Option DerElement) → IsProp (MayHave kind parameters)
MayHave-prop kinds.Rsa None = Unit-prop
MayHave-prop kinds.Rsa (Some parameters) = Coded-set coded_element parameters null
MayHave-prop kinds.Ec None = λ a b. absurd a
MayHave-prop kinds.Ec (Some parameters) = IsOid-prop parameters
MayHave-prop kinds.Ed parameters = Unit-prop
MayHave-prop kinds.Mldsa parameters = Unit-prop

pub same_bools : (a b : Bool) → IsProp (a ≡ b)
same_bools a b = Coded-set coded_bool a b

IsAlgorithmWith-prop : (kind : KeyKind) (oid : List ℕ) (parameters : Option DerElement) → IsProp (IsAlgorithmWith kind oid parameters)
IsAlgorithmWith-prop kind oid parameters = hlevel (same_bools, MayHave-prop kind parameters)

pub IsAlgorithmOf-prop : (kind : KeyKind) (algorithm : AlgorithmIdentifier) → IsProp (IsAlgorithmOf kind algorithm)
IsAlgorithmOf-prop kind algorithm = IsAlgorithmWith-prop kind (identifier_contents algorithm.oid) (kept_option algorithm.parameters)

-- what holds of an OID holds of octets that are the same
at_same : (P : List ℕ → Type 0) (oid known : List ℕ) → IsTrue (bytes_eq oid known) → P known → P oid
at_same P oid known same p = subst P (sym ((bytes_eq-Decides oid known).0 same)) p

named_rsa : (P : List ℕ → Type 0) → P RSA_ENCRYPTION.now → (oid : List ℕ) → IsTrue (names_kind kinds.Rsa oid) → P oid
named_rsa P a0 oid named = at_same P oid RSA_ENCRYPTION.now named a0

named_ec : (P : List ℕ → Type 0) → P EC_PUBLIC_KEY.now → (oid : List ℕ) → IsTrue (names_kind kinds.Ec oid) → P oid
named_ec P a0 oid named = at_same P oid EC_PUBLIC_KEY.now named a0

named_ed : (P : List ℕ → Type 0) → P X25519.now → P X448.now → P ED25519.now → P ED448.now → (oid : List ℕ) → IsTrue (names_kind kinds.Ed oid) → P oid
named_ed P a0 a1 a2 a3 oid named = elim (or_cases _ _ named) [
  | inl l3 ↦ elim (or_cases _ _ l3) [
    | inl l2 ↦ elim (or_cases _ _ l2) [ inl l1 ↦ at_same P oid X25519.now l1 a0 | inr r1 ↦ at_same P oid X448.now r1 a1 ]
    | inr r2 ↦ at_same P oid ED25519.now r2 a2
  ]
  | inr r3 ↦ at_same P oid ED448.now r3 a3
]

named_mldsa : (P : List ℕ → Type 0) → P ML_DSA_44.now → P ML_DSA_65.now → P ML_DSA_87.now → (oid : List ℕ) → IsTrue (names_kind kinds.Mldsa oid) → P oid
named_mldsa P a0 a1 a2 oid named = elim (or_cases _ _ named) [
  | inl l2 ↦ elim (or_cases _ _ l2) [ inl l1 ↦ at_same P oid ML_DSA_44.now l1 a0 | inr r1 ↦ at_same P oid ML_DSA_65.now r1 a1 ]
  | inr r2 ↦ at_same P oid ML_DSA_87.now r2 a2
]

-- the kind that an OID identifies, if there is one
abbrev kind_of : List ℕ → KeyKind
kind_of oid =
    if names_kind kinds.Rsa oid then kinds.Rsa
    else (if names_kind kinds.Ec oid then kinds.Ec
    else (if names_kind kinds.Ed oid then kinds.Ed else kinds.Mldsa))

kind_named : (k : KeyKind) (oid : List ℕ) → IsTrue (names_kind k oid) → kind_of oid ≡ k
kind_named kinds.Rsa oid named = named_rsa (λ o. kind_of o ≡ kinds.Rsa) refl oid named
kind_named kinds.Ec oid named = named_ec (λ o. kind_of o ≡ kinds.Ec) refl oid named
kind_named kinds.Ed oid named = named_ed (λ o. kind_of o ≡ kinds.Ed) refl refl refl refl oid named
kind_named kinds.Mldsa oid named = named_mldsa (λ o. kind_of o ≡ kinds.Mldsa) refl refl refl oid named

-- an OID identifies one kind
pub one_kind : (k l : KeyKind) (oid : List ℕ) → IsTrue (names_kind k oid) → IsTrue (names_kind l oid) → k ≡ l
one_kind k l oid p q = sym (kind_named k oid p) ∙ kind_named l oid q
