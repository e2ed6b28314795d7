-- When the certificates at some indices of a bag are a chain above another one, and those of a
-- signer's issuer path (RFC 5280 6.1).
use Rattle.std.specs.Prelude.{◌≡◌, ⊤, Bool, ℕ, List, [], ◌∷◌, ◌++◌, length, true, false}
use Rattle.der_core.specs.Rules.{IsFirstBroken}
use Rattle.key_core.specs.Verifying.{Judge}
use Rattle.x509_core.specs.Chain.{IsLinkedChain, last_of}
use Rattle.x509_core.specs.OwnedCertificate.{KeptCertificate}
use Rattle.x509_core.specs.Link.{link_rules}
use Rattle.x509_core.specs.declared.error.CertError.{CertError}
use Rattle.x509_core.specs.declared.window.Window.{Window}
use Rattle.x509_types.specs.CertificateElements.{CertificateElements}
use Rattle.authenticode_core.specs.IssuerWalk.{IsIssuerPath}
use Rattle.authenticode_core.specs.Indices.{StandsAt}

-- the certificates are at these indices, one at each
abbrev pub StandAt : List CertificateElements → List ℕ → List KeptCertificate → Type 0
StandAt bag [] [] = ⊤
StandAt bag [] (kept ∷ others) = ⊥
StandAt bag (place ∷ places) [] = ⊥
StandAt bag (place ∷ places) (kept ∷ others) =
    StandsAt bag place kept.elements × StandAt bag places others

-- The certificates at the indices are a chain above the checked one: each may have issued the one
-- before it, and is valid.
pub record AreLinkedAt (judge : Judge) (w : Window) (bag : List CertificateElements)
    (checked : KeptCertificate) (places : List ℕ) : Type 0 where
  pub parents : List KeptCertificate
  pub stand : StandAt bag places parents
  pub linked : IsLinkedChain judge w checked parents

-- The certificate at one of the indices isn't linked to the one before it, and all before it are.
pub record IsUnlinkedAt (judge : Judge) (w : Window) (bag : List CertificateElements)
    (checked : KeptCertificate) (places : List ℕ) (e : CertError) : Type 0 where
  pub before : List ℕ
  pub place : ℕ
  pub after : List ℕ
  pub are : places ≡ before ++ place ∷ after
  pub below : List KeptCertificate
  pub stand : StandAt bag before below
  pub parent : KeptCertificate
  pub stands : StandsAt bag place parent.elements
  pub linked : IsLinkedChain judge w checked below
  pub broken : IsFirstBroken (link_rules judge w (length below) parent (last_of checked below)) e

-- ---- the issuer path of a signer

-- The certificates of the issuer path are a chain above the signer's.
pub record IsVouchedPath (judge : Judge) (w : Window) (bag : List CertificateElements)
    (signer : KeptCertificate) (path : List ℕ) : Type 0 where
  pub is_path : IsIssuerPath bag signer.elements path
  pub linked : AreLinkedAt judge w bag signer path

-- if the chain is checked, the path is the issuer path, a chain above the signer's certificate;
-- else it is empty
abbrev pub IsPathAsked : Bool → Judge → Window → List CertificateElements → KeptCertificate → List ℕ
    → Type 0
IsPathAsked true judge w bag signer path = IsVouchedPath judge w bag signer path
IsPathAsked false judge w bag signer path = path ≡ []
