-- The signature algorithm of a borrowed certificate, by its octets.
use Rattle.std.proofs.Common.{◌≡◌, ℕ, List, ◌∷◌, Option, Some, None, refl, sym, ap, ◌∙◌}
use Rattle.std.specs.Prelude.{option_to_list}
use Rattle.asn1_types.specs.Values.{identifier_contents}
use Rattle.der_core.specs.DerElement.{DerElement, Primitive}
use Rattle.der_core.specs.Elements.{sequence}
use Rattle.der_core.specs.Encoding.{encoding, IsDer}
use Rattle.der_core.specs.Owned.{IsKept}
use Rattle.der_core.specs.BorrowedOption.{kept_option}
use Rattle.der_core.specs.Facts.Owned.{one_kept}
use Rattle.key_core.specs.SignatureAlgorithm.{NamesSignature, signature_identifier}
use Rattle.key_core.specs.declared.signature_algorithm.SignatureAlgorithm.{SignatureAlgorithm}
use Rattle.key_types.specs.AlgorithmIdentifier.{algorithm_identifier, oid_of, parameters_of}
use Rattle.key_types.specs.declared.algorithm.AlgorithmIdentifier.{AlgorithmIdentifier}

first_contents : (s t : List ℕ) (x y : List DerElement) → sequence (Primitive 0x06 s ∷ x) ≡ sequence (Primitive 0x06 t ∷ y) → s ≡ t
first_contents s t x y e = cc

-- the OID that is read is that of the algorithm
oid_read : (read : DerElement) (kids : List DerElement) (first : DerElement) (behind : List DerElement) (oid : List ℕ) → read ≡ sequence kids
    → kids ≡ first ∷ behind → first ≡ Primitive 0x06 oid
    → (id : AlgorithmIdentifier) → read ≡ algorithm_identifier id → oid ≡ identifier_contents (oid_of id)
oid_read read kids first behind oid are begins is id beside =
    first_contents oid (identifier_contents (oid_of id)) behind (option_to_list (kept_option (parameters_of id)))
    (sym (are ∙ ap sequence (begins ∙ ap (λ (f : DerElement). f ∷ behind) is)) ∙ beside)

named_nothing : (algorithm : SignatureAlgorithm) (found : Option SignatureAlgorithm) → found ≡ None → found ≡ Some algorithm → ⊥
named_nothing algorithm found none some = absurd cc

-- the octets are of the element, and of the one that is read
module _ (octets : List ℕ) (read element : DerElement) (kept : IsKept octets read) (der : IsDer element) (is : octets ≡ encoding element) where
  same : read ≡ element
  same = one_kept octets read element kept (der, is)

  pub unshaped : ((id : AlgorithmIdentifier) → read ≡ algorithm_identifier id → ⊥) → (id : AlgorithmIdentifier) (algorithm : SignatureAlgorithm)
      → element ≡ algorithm_identifier id → NamesSignature id algorithm → ⊥
  unshaped none id algorithm beside named = none id (same ∙ beside)

  module _ (kids : List DerElement) (first : DerElement) (behind : List DerElement) (oid : List ℕ) (are : read ≡ sequence kids) (begins : kids ≡ first ∷ behind)
      (leaf : first ≡ Primitive 0x06 oid) where
    pub unnamed : ((algorithm : SignatureAlgorithm) → signature_identifier algorithm ≡ Some oid → None ≡ Some algorithm)
        → (id : AlgorithmIdentifier) (algorithm : SignatureAlgorithm) → element ≡ algorithm_identifier id → NamesSignature id algorithm → ⊥
    unnamed none id algorithm beside named =
        let contents = oid_read read kids first behind oid are begins leaf id (same ∙ beside) in
        named_nothing algorithm None refl (none algorithm (named ∙ ap (λ (o : List ℕ). Some o) (sym contents)))

    pub named_as : (algorithm : SignatureAlgorithm) → signature_identifier algorithm ≡ Some oid
        → (fits : (id : AlgorithmIdentifier) × (read ≡ algorithm_identifier id))
        → (id : AlgorithmIdentifier) × (element ≡ algorithm_identifier id) × NamesSignature id algorithm
    named_as algorithm name (id, shape) =
        (id, sym same ∙ shape, name ∙ ap (λ (o : List ℕ). Some o) (oid_read read kids first behind oid are begins leaf id shape))
