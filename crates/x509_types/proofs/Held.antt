-- What extended key usages hold.
use Rattle.std.proofs.Common.{◌≡◌, ◌↔◌, IsTrue, ℕ, List, Bool, Option, Some, None, MatchOption, sym, subst, ◌∙◌}
use Rattle.der_core.specs.DerElement.{DerElement}
use Rattle.der_core.specs.Elements.{sequence}
use Rattle.der_core.specs.Owned.{IsKept}
use Rattle.der_core.specs.Facts.Grammars.{same_fields}
use Rattle.asn1_types.specs.declared.oids.TheConstants.{CE_EXT_KEY_USAGE}
use Rattle.x509_types.specs.FirstExtension.{IsNamed}
use Rattle.x509_types.specs.Purposes.{HasSome, IsPurpose, HoldsPurpose, IsUsage, IsUsageFor}
use Rattle.der_core.specs.Facts.Owned.{one_kept}
use Rattle.x509_types.proofs.FirstExtensions.{named_once}

-- the element in the octets of an extended key usage is the one that it holds
pub usage_held : {R : Type 0} (now : R → DerElement) (extension : DerElement) (octets : List ℕ) (r : Option R) → IsNamed CE_EXT_KEY_USAGE.now extension octets
    → MatchOption r ((element : DerElement) → IsKept octets element → ⊥)
    (λ e. IsKept octets (now e)) → MatchOption r
    ((element : DerElement) → IsUsage extension element → ⊥) (λ e. IsUsage extension (now e))
usage_held now extension octets None named none =
    λ element usage. none element (subst (λ (o : List ℕ). IsKept o element)
    (named_once CE_EXT_KEY_USAGE.now extension usage.0 octets usage.1 named) usage.2)
usage_held now extension octets (Some e) named holds = (octets, named, holds)

usage_once : (extension a b : DerElement) → IsUsage extension a → IsUsage extension b → a ≡ b
usage_once extension a b p q = one_kept q.0 a b (subst (λ (o : List ℕ). IsKept o a) (named_once CE_EXT_KEY_USAGE.now extension p.0 q.0 p.1 q.1) p.2) q.2

-- the KeyPurposeIds of the element in it are its own
pub usage_holds : (oid : List ℕ) (extension element : DerElement) (t : Bool)
    → IsUsage extension element → (IsTrue t ↔ HoldsPurpose oid element)
    → IsTrue t ↔ IsUsageFor oid extension
usage_holds oid extension element t usage test = (
  λ w. (element, usage, test.0 w),
  λ held. test.1 (subst (HoldsPurpose oid) (usage_once extension held.0 element held.1 usage) held.2),
)

-- the KeyPurposeIds among the elements of a sequence are those in it
pub purposes_held : (oid : List ℕ) (element : DerElement) (kids : List DerElement) (t : Bool)
    → element ≡ sequence kids → (IsTrue t ↔ HasSome (IsPurpose oid) kids)
    → IsTrue t ↔ HoldsPurpose oid element
purposes_held oid element kids t is test = (
  λ w. (kids, is, test.0 w),
  λ holds. test.1 (subst (HasSome (IsPurpose oid)) (same_fields holds.0 kids (sym holds.1 ∙ is)) holds.2),
)
