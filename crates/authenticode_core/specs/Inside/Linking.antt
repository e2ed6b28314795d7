-- A chain above a certificate, linked one index at a time.
use Rattle.std.specs.Prelude.{◌≡◌, ℕ, List, length, unwrap_or}
use Rattle.der_core.specs.Rules.{IsFirstBroken}
use Rattle.key_core.specs.Verifying.{Judge}
use Rattle.x509_core.specs.Chain.{IsLinkedChain, last_of}
use Rattle.x509_core.specs.OwnedCertificate.{KeptCertificate}
use Rattle.x509_core.specs.Link.{IsLink, IsCountFor, link_rules}
use Rattle.x509_core.specs.declared.error.CertError.{CertError}
use Rattle.x509_core.specs.declared.window.Window.{Window}
use Rattle.x509_types.specs.CertificateElements.{CertificateElements}
use Rattle.authenticode_core.specs.LinkedPath.{StandAt}
use Rattle.authenticode_core.specs.declared.path.Linking.{Linking}

-- The certificates at the indices so far are a chain above the checked one, the last of them is
-- stored, and they are counted.
pub record IsLinkedSoFar (judge : Judge) (w : Window) (bag : List CertificateElements)
    (checked : KeptCertificate) (so_far : Linking) : Type 0 where
  pub below : List KeptCertificate
  pub stand : StandAt bag so_far.places below
  pub linked : IsLinkedChain judge w checked below
  pub at : unwrap_or so_far.last checked ≡ last_of checked below
  pub counted : IsCountFor so_far.number (length below)

-- The certificate with these fields isn't linked to the last of them.
pub record IsBrokenNext (judge : Judge) (w : Window) (bag : List CertificateElements)
    (checked : KeptCertificate) (so_far : Linking) (c : CertificateElements)
    (e : CertError) : Type 0 where
  pub chain : IsLinkedSoFar judge w bag checked so_far
  pub parent : KeptCertificate
  pub is : parent.elements ≡ c
  pub broken : IsFirstBroken
      (link_rules judge w (length chain.below) parent (last_of checked chain.below)) e

-- The certificate with these fields is stored, and may have issued the child.
pub record IsNextLink (judge : Judge) (w : Window) (count : ℕ) (child : KeptCertificate)
    (c : CertificateElements) (parent : KeptCertificate) : Type 0 where
  pub is : parent.elements ≡ c
  pub link : IsLink judge w count parent.elements child.elements

-- It may not, and the error reports the first broken rule.
pub record IsNoLink (judge : Judge) (w : Window) (count : ℕ) (child : KeptCertificate)
    (c : CertificateElements) (e : CertError) : Type 0 where
  pub parent : KeptCertificate
  pub is : parent.elements ≡ c
  pub broken : IsFirstBroken (link_rules judge w count parent child) e
