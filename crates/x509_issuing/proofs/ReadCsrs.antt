-- Reading an element as a request is reading its octets; requests are the same where what is stored
-- of them is.
use Rattle.std.proofs.Common.{◌≡◌, ◌↔◌, ℕ, List, Bool, IsTrue, Result, Ok, Err, IfOk, MatchResult, sym, ap, subst, ◌∙◌}
use Rattle.std.proofs.lemmas.Grind.{merely}
use Rattle.der_core.specs.DerElement.{DerElement}
use Rattle.der_core.specs.Encoding.{encoding, IsDer}
use Rattle.der_core.specs.Owned.{KeptElement}
use Rattle.der_core.specs.Facts.Owned.{same_kept}
use Rattle.der_core.specs.Refusals.{RefusesShape, RefusesOctets}
use Rattle.der_core.specs.Structure.{IsWithin}
use Rattle.der_core.specs.declared.error.DerError.{DerError}
use Rattle.der_core.specs.declared.error.DerError.TheVariants as errors
use Rattle.x509_issuing.specs.CertificationRequest.{IsRequest}
use Rattle.x509_issuing.specs.declared.request.CertificationRequest.{CertificationRequest}
use Rattle.x509_issuing.specs.OwnedRequest.{KeptRequest, kept_request, HasInfo}
use Rattle.x509_issuing.specs.Facts.Csrs.{kept_once}

pub read_whole : (octets : List ℕ) (element : DerElement) (r : Result KeptRequest DerError) → octets ≡ encoding element
    → IfOk r (λ kept. kept_request kept ≡ element) → IfOk r (λ kept. encoding (kept_request kept) ≡ octets)
read_whole octets element (Ok kept) is same = ap encoding same ∙ sym is
read_whole octets element (Err e) is same = tt

pub read_value : (octets : List ℕ) (element : DerElement) (r : Result KeptRequest DerError) → IsDer element → octets ≡ encoding element
    → MatchResult r (λ kept. IsRequest element kept.request) (RefusesShape (IsRequest element))
    → MatchResult r (λ kept. IsWithin IsRequest octets kept.request) (RefusesOctets IsRequest octets)
read_value octets element (Ok kept) der is spelled = record { element = element; der = der; encoded = is; spelled = spelled }
read_value octets element (Err errors.Memory) der is refused = tt
read_value octets element (Err errors.Shape) der is refused = record { element = element; der = der; encoded = is; none = refused }
read_value octets element (Err (errors.Malformed m)) der is refused = absurd refused
read_value octets element (Err errors.TooDeep) der is refused = refused
read_value octets element (Err errors.TooLong) der is refused = refused

pub same_csrs : (a b : KeptRequest) (x y : KeptElement) (t : Bool) → x.element ≡ kept_request a → y.element ≡ kept_request b → (IsTrue t ↔ (x ≡ y))
    → IsTrue t ↔ (a ≡ b)
same_csrs a b x y t px py test = (
  λ w. kept_once a b (sym px ∙ ap (λ (k : KeptElement). k.element) (test.0 w) ∙ py),
  λ e. test.1 (same_kept x y (px ∙ ap kept_request e ∙ sym py)),
)
