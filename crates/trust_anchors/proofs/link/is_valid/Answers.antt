use Rattle.std.proofs.Common.{◌↔◌, Bool, IsTrue, subst, sym}
use Rattle.x509_types.specs.CertificateView.{view_elements}
use Rattle.x509_core.specs.Window.{IsWithinWindow}
use Rattle.x509_core.proofs.Validity.{valid_is_met}
use Rattle.trust_anchors.proofs.UnsignedLinks.{ok_where}
use Rattle.trust_anchors.proofs.link.is_valid.Goals as goal

pub returns : goal.returns
returns c = subst (λ (test : Bool). IsTrue test ↔ IsWithinWindow c.args.window.now (view_elements c.args.view)) (sym c.is_ok.ensures.value)
    (ok_where _ _ _ (valid_is_met _ _) c.expect_valid.ensures)
