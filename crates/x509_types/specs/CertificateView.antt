-- A borrowed certificate.
use Rattle.std.specs.Prelude.{◌≡◌}
use Rattle.der_core.specs.DerElement.{DerElement}
use Rattle.der_core.specs.Structure.{Fits}
use Rattle.x509_types.specs.CertificateElements.{CertificateElements, certificate_of, AreCertificateFields}
use Rattle.x509_types.specs.BorrowedCertificate.{lent_elements}
use Rattle.x509_types.specs.declared.certificate.view.CertView.{CertView}

-- the borrowed elements
abbrev pub view_elements : CertView → CertificateElements
view_elements view = lent_elements view.parts

-- The view is of this element: its elements are the fields, and encode those of a certificate.
pub record IsCertView (element : DerElement) (view : CertView) : Type 0 where
  pub is : element ≡ certificate_of (view_elements view)
  pub fits : Fits AreCertificateFields (view_elements view)

-- The same for an element that is known to encode some certificate.
pub record IsKnownView (element : DerElement) (view : CertView) : Type 0 where
  pub is : element ≡ certificate_of (view_elements view)
  pub fits : ∥ Fits AreCertificateFields (view_elements view) ∥₁
