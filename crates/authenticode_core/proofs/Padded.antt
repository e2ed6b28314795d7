-- What is read from an encoding with zeros after it.
use Rattle.std.proofs.Common.{◌≡◌, ℕ, List, [], length, take, refl, ◌∙◌, ap}
use Rattle.std.specs.Prelude.{replicate}
use Rattle.std.proofs.lemmas.List.{take_at}
use Rattle.der_core.specs.DerElement.{DerElement}
use Rattle.der_core.specs.Encoding.{encoding, IsPaddedEncoding, most_levels}
use Rattle.der_core.specs.Reading.{IsFirst}
use Rattle.der_core.specs.Head.{head_at}
use Rattle.der_core.specs.Fault.{IsFirstFault, Outermost}
use Rattle.der_core.specs.declared.fault.DerFault.TheVariants.{Truncated}

pub IsFirst-padded : (octets : List ℕ) (element : DerElement) → IsPaddedEncoding octets element → IsFirst octets element (length (encoding element))
IsFirst-padded octets element padded = record {
  der = padded.0;
  many = refl;
  front = ap (take (length (encoding element))) padded.3 ∙ take_at (encoding element) (replicate padded.1 0) _ refl;
}

-- empty octets are truncated at offset 0
pub no_octets : {octets : List ℕ} → octets ≡ [] → IsFirstFault octets 0 Truncated
unfolding head_at
no_octets {octets} none = rw none (record {
  octets = [];
  levels = most_levels;
  start = Outermost;
  fails = refl;
})
