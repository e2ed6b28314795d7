-- The fields of extensions (RFC 5280 4.1).
use Rattle.std.specs.Prelude.{◌≡◌, ℕ, Bool, List, [], ◌∷◌, ◌++◌}
use Rattle.der_core.specs.DerElement.{DerElement}
use Rattle.der_core.specs.Elements.{sequence, octet_string}
use Rattle.der_core.specs.Default.{IsDefaultFalse}

-- An element by the element of the OID, the flag and the octets of the value. FALSE needn't be
-- absent, and TRUE needn't be FF (X.690 11.5, 11.1).
pub record IsExtensionOf (element oid : DerElement) (critical : Bool)
    (octets : List ℕ) : Type 0 where
  pub flag : List DerElement
  pub flagged : IsDefaultFalse flag critical
  pub is : element ≡ sequence (oid ∷ (flag ++ octet_string octets ∷ []))
