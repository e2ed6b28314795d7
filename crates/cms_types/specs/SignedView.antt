-- Signed data, borrowed.
use Rattle.std.specs.Prelude.{◌≡◌}
use Rattle.der_core.specs.DerElement.{DerElement}
use Rattle.cms_types.specs.Borrowed.{signed_data_at}
use Rattle.cms_types.specs.Levels.{AreSignedDataFields}
use Rattle.cms_types.specs.SignedDataElements.{SignedDataElements, signed_data_of}
use Rattle.cms_types.specs.Pkcs7Elements.{pkcs7_of}
use Rattle.cms_types.specs.Pkcs7.{pkcs7}
use Rattle.cms_types.specs.declared.signed_data.pkcs7.Pkcs7Certificate.{Pkcs7Certificate}
use Rattle.cms_types.specs.declared.signed_data.view.SignedView.{SignedView}

-- the borrowed elements
abbrev pub data_elements : SignedView → SignedDataElements
data_elements view = signed_data_at view.fields

-- The view is one of this element: it borrows the fields, each with its structure, and the element
-- encodes a value.
pub record IsSignedView (element : DerElement) (view : SignedView) : Type 0 where
  pub is : element ≡ pkcs7_of (signed_data_of (data_elements view))
  pub fields : AreSignedDataFields (data_elements view)
  pub value : Pkcs7Certificate
  pub spelled : element ≡ pkcs7 value
