-- Parameters of algorithms by their octets.
use Rattle.der_core.specs.Facts.Optional.{kept_once}
use Rattle.std.proofs.Common.{◌≡◌, IsTrue, [], ◌∷◌, ◌++◌, Option, refl, sym, ◌∙◌, ap, subst, arith, ℕ, List, Bool, true, false}
use Rattle.der_core.specs.DerElement.{DerElement, Primitive, Constructed}
use Rattle.der_core.specs.Encoding.{encoding, IsWellFormed, IsDer, length_octets}
use Rattle.der_core.specs.Facts.Fronts.{fronts}
use Rattle.asn1_types.specs.declared.oid.ObjectIdentifier.{ObjectIdentifier}
use Rattle.der_core.specs.Elements.{null}
use Rattle.asn1_types.specs.Elements.{object_identifier}
use Rattle.std.specs.Prelude.{option_to_list}
use Rattle.der_core.specs.BorrowedOption.{kept_option}
use Rattle.asn1_types.specs.Values.{identifier_contents}
use Rattle.key_types.specs.AlgorithmIdentifier.{algorithm_of, algorithm_identifier}
use Rattle.key_types.specs.KeyKind.{IsOid, IsAlgorithmWith, IsAlgorithmOf}
use Rattle.der_core.specs.Facts.Grammars.{same_fields}
use Rattle.key_types.specs.declared.algorithm.AlgorithmIdentifier.{AlgorithmIdentifier}
use Rattle.key_types.specs.declared.key_kind.KeyKind.{KeyKind}

null_is_well_formed : IsWellFormed null
null_is_well_formed = ((omega arith, omega arith, omega arith), refl)

-- the octets of NULL
pub null_octets : encoding null ≡ 5 ∷ 0 ∷ []
unfolding length_octets
null_octets = refl

-- NULL is recognised by its octets
pub null_by_octets : (element : DerElement) → IsDer element → encoding element ≡ 5 ∷ 0 ∷ [] → element ≡ null
null_by_octets element der same =
    (fronts element null [] [] der.formed null_is_well_formed der.short (omega arith) (ap (λ o. o ++ []) (same ∙ sym null_octets))).0

-- an element that encodes an OID is an OBJECT IDENTIFIER
pub oid_fits : (element : DerElement) (value : ObjectIdentifier) → element ≡ object_identifier value → IsOid element
oid_fits element value is = subst IsOid (sym is) (refl, value.formed)

pub oid_unfit : (element : DerElement) → ((value : ObjectIdentifier) → element ≡ object_identifier value → ⊥) → IsOid element → ⊥
oid_unfit (Primitive tag contents) none oid = none (record { contents = contents; formed = oid.1 }) (ap (λ t. Primitive t contents) oid.0)
oid_unfit (Constructed tag kids) none oid = oid

pub decided : (b : Bool) → (b ≡ false → ⊥) → IsTrue b
decided true none = refl
decided false none = absurd (none refl)

-- an algorithm is for keys of a kind if the fields of its element say so
pub of_fields : (element oid : DerElement) (parameters : Option DerElement) (contents : List ℕ) (a : AlgorithmIdentifier) (kind : KeyKind)
    → element ≡ algorithm_of oid parameters → oid ≡ Primitive 0x06 contents → element ≡ algorithm_identifier a → IsAlgorithmWith kind contents parameters
    → IsAlgorithmOf kind a
of_fields element oid parameters contents a kind fields leaf is with =
    let kids = same_fields (oid ∷ option_to_list parameters) (object_identifier a.oid ∷ option_to_list (kept_option a.parameters)) (sym fields ∙ is) in
    let first : oid ≡ object_identifier a.oid = cc in
    let others : option_to_list parameters ≡ option_to_list (kept_option a.parameters) = cc in
    let same : contents ≡ identifier_contents a.oid = leaf_once contents (identifier_contents a.oid) (sym leaf ∙ first) in
    subst (λ (o : List ℕ). IsAlgorithmWith kind o (kept_option a.parameters)) same
    (subst (λ (p : Option DerElement). IsAlgorithmWith kind contents p) (kept_once parameters (kept_option a.parameters) others) with)
  where
    leaf_once : (x y : List ℕ) → Primitive 0x06 x ≡ Primitive 0x06 y → x ≡ y
    leaf_once x y e = cc
