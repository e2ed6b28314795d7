-- Signed data of given certificates alone contains these, in order, and nothing else.
use Rattle.std.proofs.Common.{◌≡◌, List, [], ◌∷◌, map, refl, sym, ap, subst, ◌∙◌, inr, ℕ}
use Rattle.std.proofs.lemmas.Grind.{merely}
use mathlib.Core.Logic.{∥∥₁_map₂}
use Rattle.cms_types.specs.SignedDataElements.{SignedDataElements}
use Rattle.der_core.specs.DerElement.{DerElement}
use Rattle.der_core.specs.Encoding.{encoding}
use Rattle.der_core.specs.Facts.Rows.{listed-row}
use Rattle.der_core.specs.Optional.{members_of}
use Rattle.x509_core.specs.OwnedCertificate.{KeptCertificate, kept_octets}
use Rattle.x509_types.specs.CertificateElements.{certificate_of}
use Rattle.authenticode_core.specs.CertificateBag.{IsBag}
use Rattle.authenticode_core.specs.SigningRules.{IsBagOf}
use Rattle.authenticode_parts.specs.Carried.{elements_of}
use Rattle.authenticode_signature.specs.CertificatesAlone.{certificates_alone}

-- their elements, in order
abbrev pub members : List KeptCertificate → List DerElement
members certs = map certificate_of (elements_of certs)

bag_of : (certs : List KeptCertificate) → ∥ IsBag (members certs) (elements_of certs) ∥₁
bag_of [] = merely refl
bag_of (c ∷ certs) = ∥∥₁_map₂ c.spelled (bag_of certs)
    (λ fits bag. inr (c.elements, elements_of certs, refl, record { is = refl; fits = (c.certificate, fits) }, bag))

module _ (certs : List KeptCertificate) (f : SignedDataElements) (alone : f ≡ certificates_alone (members certs)) where
  are_members : members_of f.certificates ≡ members certs
  are_members = ap (λ (g : SignedDataElements). members_of g.certificates) alone ∙ listed-row (members certs)

  pub given_bag : ∥ IsBagOf f (elements_of certs) ∥₁
  given_bag = subst (λ (ms : List DerElement). ∥ IsBag ms (elements_of certs) ∥₁) (sym are_members) (bag_of certs)

  pub given_octets : map encoding (members_of f.certificates) ≡ map kept_octets certs
  given_octets = ap (map encoding) are_members ∙ each certs
    where
      each : (ks : List KeptCertificate) → map encoding (members ks) ≡ map kept_octets ks
      each [] = refl
      each (k ∷ ks) = ap (λ (os : List (List ℕ)). kept_octets k ∷ os) (each ks)
