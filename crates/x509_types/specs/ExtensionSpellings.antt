-- The two ways in which an element that encodes an extension can differ from the one that is
-- written for it.
use Rattle.std.specs.Prelude.{◌≡◌, ◌≢◌, ◌⊎◌, ℕ, ◌==◌, Bool, not, List, [], ◌∷◌}
use Rattle.der_core.specs.DerElement.{DerElement, Primitive}
use Rattle.der_core.specs.Encoding.{encoding}
use Rattle.der_core.specs.Elements.{sequence, octet_string}
use Rattle.der_core.specs.Default.{default_false}
use Rattle.asn1_types.specs.Elements.{object_identifier}
use Rattle.extension_types.specs.BasicConstraints.{HasOtherTrue}
use Rattle.extension_types.specs.declared.basic_constraints.BasicConstraints.{BasicConstraints}
use Rattle.x509_types.specs.Extension.{extension, IsExtension}
use Rattle.x509_types.specs.ExtensionView.{value_octets}
use Rattle.x509_types.specs.declared.extension.Extension.{Extension}
use Rattle.x509_types.specs.declared.extension.view.ExtensionView.{ExtensionView}
use Rattle.x509_types.specs.declared.extension.view.ExtensionView.TheVariants as views

-- The flag of an extension is another octet than FF: TRUE, against X.690 11.1, or FALSE, against
-- X.690 11.5.
pub record HasOtherFlag (element oid : DerElement) (critical : Bool)
    (octets : List ℕ) : Type 0 where
  pub octet : ℕ
  pub other : octet ≢ 0xFF
  pub flagged : critical ≡ not (octet == 0)
  pub is : element ≡ sequence (oid ∷ Primitive 0x01 (octet ∷ []) ∷ octet_string octets ∷ [])

-- The octets encode basic constraints whose TRUE is another octet than FF, against X.690 11.1.
pub record HasOtherConstraints (octets : List ℕ) (view : ExtensionView) : Type 0 where
  pub element : DerElement
  pub constraints : BasicConstraints
  pub other : HasOtherTrue element constraints
  pub valued : view ≡ views.BasicConstraints constraints
  pub are : octets ≡ encoding element

-- The element encodes the extension. Its flag is as it is written, or another octet; independently,
-- the octets of its value are the written ones, or have another TRUE. If both are as they are
-- written, so is the element.
pub record IsSpelling (element : DerElement) (e : Extension) : Type 0 where
  pub is : IsExtension element e
  pub flag : (is.fields.flag ≡ default_false e.critical)
      ⊎ HasOtherFlag element (object_identifier e.extn_id) e.critical is.octets
  pub value : (is.octets ≡ value_octets e.extn_value) ⊎ HasOtherConstraints is.octets e.extn_value
  pub same : is.fields.flag ≡ default_false e.critical → is.octets ≡ value_octets e.extn_value
      → element ≡ extension e
