-- The octets of a request determine it, and are refused only where memory runs out.
use Rattle.std.proofs.Common.{◌≡◌, ℕ, List}
use Rattle.std.proofs.Math.Logic.{∥∥₁_elim}
use Rattle.der_core.specs.Encoding.{encoding}
use Rattle.der_core.specs.Facts.Fronts.{formed_encoding_once}
use Rattle.der_core.specs.Refusals.{RefusesOctets}
use Rattle.der_core.specs.declared.error.DerError.{DerError}
use Rattle.der_core.specs.declared.error.DerError.TheVariants as der
use Rattle.der_core.proofs.Rereading.{only_memory}
use Rattle.x509_issuing.specs.CertificationRequest.{IsRequest}
use Rattle.x509_issuing.specs.OwnedRequest.{KeptRequest, kept_request}
use Rattle.x509_issuing.specs.Facts.Csrs.{kept_once, spelled_around}

pub same_request : (a b : KeptRequest) → encoding (kept_request a) ≡ encoding (kept_request b) → a ≡ b
same_request a b same = kept_once a b (formed_encoding_once (kept_request a) (kept_request b) a.der.formed b.der.formed same)

is_request : (kept : KeptRequest) → (IsRequest (kept_request kept) kept.request → ⊥) → ⊥
is_request kept never = ∥∥₁_elim kept.spelled (λ a b. absurd a) (λ is. never (spelled_around kept.info kept.request is))

-- octets of a request are refused only when out of memory
pub refused_for_memory : (kept : KeptRequest) (octets : List ℕ) (source : DerError) → octets ≡ encoding (kept_request kept)
    → RefusesOctets IsRequest octets source → source ≡ der.Memory
refused_for_memory kept octets source is refused =
    only_memory IsRequest octets (kept_request kept) source kept.der is (λ none. is_request kept (none kept.request)) refused
