-- Certificates are the same where what is stored of them is.
use Rattle.std.proofs.Common.{◌≡◌, ◌↔◌, IsTrue, Bool, sym, ap, ◌∙◌}
use Rattle.der_core.specs.Owned.{KeptElement}
use Rattle.der_core.specs.Facts.Owned.{same_kept}
use Rattle.x509_types.specs.CertificateElements.{certificate_of}
use Rattle.x509_core.specs.OwnedCertificate.{KeptCertificate}
use Rattle.x509_core.specs.Facts.Certs.{kept_once}

pub same_certs : (a b : KeptCertificate) (x y : KeptElement) (t : Bool) → x.element ≡ certificate_of a.elements → y.element ≡ certificate_of b.elements
    → (IsTrue t ↔ (x ≡ y)) → IsTrue t ↔ (a ≡ b)
same_certs a b x y t px py test = (
  λ w. kept_once a b (sym px ∙ ap (λ (k : KeptElement). k.element) (test.0 w) ∙ py),
  λ e. test.1 (same_kept x y (px ∙ ap (λ (k : KeptCertificate). certificate_of k.elements) e ∙ sym py)),
)
