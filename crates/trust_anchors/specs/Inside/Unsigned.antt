-- Links but for their signatures (RFC 5280 6.1.3, 6.1.4).
use Rattle.std.specs.Prelude.{ℕ, true}
use Rattle.x509_core.specs.Link.{IsDeepEnough}
use Rattle.x509_core.specs.Parent.{AgreeByKey, AgreeByName}
use Rattle.x509_core.specs.Window.{IsWithinWindow}
use Rattle.x509_core.specs.declared.window.Window.{Window}
use Rattle.x509_types.specs.CertificateElements.{CertificateElements}
use Rattle.x509_types.specs.ExtensionParts.{HasCa}

-- The parent may have issued the child, with this number of certificates between the parent and the
-- end of the path, if its signature is one by the parent's key.
pub record IsUnsignedLink (w : Window) (number : ℕ)
    (parent child : CertificateElements) : Type 0 where
  pub authority : HasCa parent true
  pub depth : IsDeepEnough number parent
  pub valid : IsWithinWindow w parent
  pub key : AgreeByKey parent child
  pub name : AgreeByName parent child
