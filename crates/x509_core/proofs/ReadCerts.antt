-- Reading an element is reading its octets.
use Rattle.std.proofs.Common.{◌≡◌, ℕ, List, Result, Ok, Err, IfOk, MatchResult, sym, ap, ◌∙◌}
use Rattle.der_core.specs.DerElement.{DerElement}
use Rattle.der_core.specs.Encoding.{encoding, IsDer}
use Rattle.der_core.specs.Refusals.{RefusesShape, RefusesOctets}
use Rattle.der_core.specs.Structure.{IsWithin}
use Rattle.der_core.specs.declared.error.DerError.{DerError}
use Rattle.der_core.specs.declared.error.DerError.TheVariants as errors
use Rattle.x509_types.specs.Certificate.{IsCertificate}
use Rattle.x509_types.specs.CertificateElements.{certificate_of}
use Rattle.x509_core.specs.OwnedCertificate.{KeptCertificate, kept_octets}

pub read_whole : (octets : List ℕ) (element : DerElement) (r : Result KeptCertificate DerError) → octets ≡ encoding element
    → IfOk r (λ kept. certificate_of kept.elements ≡ element) → IfOk r (λ kept. kept_octets kept ≡ octets)
read_whole octets element (Ok kept) is same = ap encoding same ∙ sym is
read_whole octets element (Err e) is same = tt

pub read_value : (octets : List ℕ) (element : DerElement) (r : Result KeptCertificate DerError) → IsDer element → octets ≡ encoding element
    → MatchResult r (λ kept. IsCertificate element kept.certificate) (RefusesShape (IsCertificate element))
    → MatchResult r (λ kept. IsWithin IsCertificate octets kept.certificate) (RefusesOctets IsCertificate octets)
read_value octets element (Ok kept) der is spelled = record { element = element; der = der; encoded = is; spelled = spelled }
read_value octets element (Err errors.Memory) der is refused = tt
read_value octets element (Err errors.Shape) der is refused = record { element = element; der = der; encoded = is; none = refused }
read_value octets element (Err (errors.Malformed m)) der is refused = absurd refused
read_value octets element (Err errors.TooDeep) der is refused = refused
read_value octets element (Err errors.TooLong) der is refused = refused
