-- The digest algorithm of an AlgorithmIdentifier.
use Rattle.std.proofs.Common.{◌≡◌, ◌≢◌, ℕ, List, ◌∷◌, Option, MatchOption, sym, ap, subst, ◌∙◌}
use Rattle.der_core.specs.DerElement.{DerElement, Primitive}
use Rattle.der_core.specs.Elements.{sequence}
use Rattle.der_core.specs.Owned.{IsKept}
use Rattle.sig_core.proofs.Variants.{identifier_same}
use Rattle.sig_core.specs.ShaVariant.{digest_identifier, hash_of}
use Rattle.sig_core.specs.declared.hash.HashAlgorithm.{HashAlgorithm}
use Rattle.sig_core.specs.declared.sha_variant.ShaVariant.{ShaVariant}
use Rattle.authenticode_core.specs.Inside.SigningSteps.{IsOfIdentifier}
use Rattle.authenticode_core.specs.SigningRules.{NamesDigest}
use Rattle.der_core.specs.Facts.Owned.{one_kept}

identifiers : (s t : List ℕ) (x y : List DerElement) → sequence (Primitive 0x06 s ∷ x) ≡ sequence (Primitive 0x06 t ∷ y) → s ≡ t
identifiers s t x y e = cc

-- an AlgorithmIdentifier has one OID
pub identifier_once : (element : DerElement) (s t : List ℕ) → IsOfIdentifier element s → IsOfIdentifier element t → s ≡ t
identifier_once element s t p q = identifiers s t p.0 q.0 (sym p.1 ∙ q.1)

of_identifier : (element : DerElement) (hash : HashAlgorithm) → (n : NamesDigest element hash) → IsOfIdentifier element (digest_identifier n.variant)
of_identifier element hash n = (n.parameters, n.is)

-- and is one digest algorithm
pub named_once : (element : DerElement) (a b : HashAlgorithm) → NamesDigest element a → NamesDigest element b → a ≡ b
named_once element a b p q =
    p.named ∙ ap hash_of (identifier_same p.variant q.variant
    (identifier_once element (digest_identifier p.variant) (digest_identifier q.variant) (of_identifier element a p) (of_identifier element b q))) ∙ sym q.named

-- ---- how it is read

-- what is read of the element that the octets are stored for is so of each
pub of_element : {K : Type 0} (now : K → List ℕ) (r : Option K) (octets : List ℕ) (read element : DerElement) → IsKept octets read → IsKept octets element
    → MatchOption r ((oid : List ℕ) → IsOfIdentifier read oid → ⊥) (λ k. IsOfIdentifier read (now k))
    → MatchOption r ((oid : List ℕ) → IsOfIdentifier element oid → ⊥) (λ k. IsOfIdentifier element (now k))
of_element now r octets read element p q =
    subst (λ (x : DerElement). MatchOption r ((oid : List ℕ) → IsOfIdentifier x oid → ⊥) (λ k. IsOfIdentifier x (now k))) (one_kept octets read element p q)

pub unidentified : (element : DerElement) → ((oid : List ℕ) → IsOfIdentifier element oid → ⊥) → (hash : HashAlgorithm) → NamesDigest element hash → ⊥
unidentified element none hash n = none (digest_identifier n.variant) (of_identifier element hash n)

pub unnamed : (element : DerElement) (oid : List ℕ) → IsOfIdentifier element oid → ((variant : ShaVariant) → digest_identifier variant ≢ oid)
    → (hash : HashAlgorithm) → NamesDigest element hash → ⊥
unnamed element oid is none hash n = none n.variant (identifier_once element (digest_identifier n.variant) oid (of_identifier element hash n) is)

pub names : (element : DerElement) (oid : List ℕ) (variant : ShaVariant) (hash : HashAlgorithm) → IsOfIdentifier element oid → digest_identifier variant ≡ oid
    → hash ≡ hash_of variant → NamesDigest element hash
names element oid variant hash is same named = record {
  variant = variant;
  parameters = is.0;
  is = is.1 ∙ ap (λ (o : List ℕ). sequence (Primitive 0x06 o ∷ is.0)) (sym same);
  named = named;
}
