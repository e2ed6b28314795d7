use Rattle.authenticode_parts.specs.Carried.{elements_of}
use Rattle.authenticode_core.specs.Indices.{HasNoPlaceBetween}
use Rattle.authenticode_core.specs.BagSigner.{HasIssuerAndSerial}
use Rattle.authenticode_signature.proofs.signing_certificate.first_named.Given as goal

-- none of the passed certificates is identified
abbrev pub invariant-loop-certificate : goal.invariant-loop-certificate
invariant-loop-certificate l = HasNoPlaceBetween (elements_of l.certificates) (HasIssuerAndSerial l.named) 0 l.certificate-index
