use Rattle.std.proofs.Common.{ap, ◌∙◌}
use Rattle.der_core.specs.DerElement.{DerElement}
use Rattle.x509_types.specs.CertificateFields.{kid, bits_of}
use Rattle.x509_types.proofs.Moments.{bits_are}
use Rattle.x509_types.proofs.laws.times_and_keys_are_those_of_certificates.Goals as goal

pub returns : goal.returns
returns c = λ f cert are. record {
  not_before = ap (kid 0) are.tbs.validity;
  not_after = ap (kid 1) are.tbs.validity;
  key_algorithm = ap (kid 0) are.tbs.subject_public_key_info.0;
  key_octets = ap (λ (e : DerElement). bits_of (kid 1 e)) are.tbs.subject_public_key_info.0
      ∙ bits_are cert.tbs_certificate.subject_public_key_info.subject_public_key;
}
