-- A signer, borrowed.
use Rattle.std.specs.Prelude.{◌≡◌, ℕ, List, [], ◌∷◌}
use Rattle.asn1_types.specs.Elements.{integer_of}
use Rattle.der_core.specs.DerElement.{DerElement}
use Rattle.der_core.specs.Elements.{sequence}
use Rattle.der_core.specs.Encoding.{encoding}
use Rattle.cms_types.specs.Borrowed.{signer_at}
use Rattle.cms_types.specs.Levels.{AreSignerFields}
use Rattle.cms_types.specs.SignerElements.{SignerElements, signer_of}
use Rattle.cms_types.specs.SignerInfo.{signer_info}
use Rattle.cms_types.specs.declared.signer_info.SignerInfo.{SignerInfo}
use Rattle.cms_types.specs.declared.signer_info.view.SignerView.{SignerView}

-- the borrowed elements
abbrev pub signer_elements_at : SignerView → SignerElements
signer_elements_at view = signer_at view.fields

-- The view is one of this element: it borrows the fields, each with its structure, and the element
-- is that of a signer.
pub record IsSignerView (element : DerElement) (view : SignerView) : Type 0 where
  pub is : element ≡ signer_of (signer_elements_at view)
  pub fields : AreSignerFields (signer_elements_at view)
  pub value : SignerInfo
  pub spelled : element ≡ signer_info value

-- The octets are those of the issuer, and the contents octets of the serial number, in the element
-- (RFC 5652 10.2.4).
pub record LendsNamed (sid : DerElement) (issuer serial_number : List ℕ) : Type 0 where
  pub name : DerElement
  pub is : sid ≡ sequence (name ∷ integer_of serial_number ∷ [])
  pub octets : issuer ≡ encoding name
