use Rattle.std.proofs.Common.{List, IfOk, subst}
use Rattle.authenticode_parts.specs.Carried.{elements_of}
use Rattle.der_core.specs.DerElement.{DerElement}
use Rattle.authenticode_core.specs.CertificateBag.{IsBag}
use Rattle.authenticode_signature.proofs.Members.{members_in}
use Rattle.authenticode_signature.proofs.pkcs7.Pkcs7.decode_certificates.Goals as goal

pub returns-in-Some : goal.returns-in-Some
returns-in-Some c =
    subst (λ (ms : List DerElement). IfOk c.certificates_of.result (λ certificates. IsBag ms (elements_of certificates.items)))
    (members_in _ _ _ c.as_slice.ensures c.in-Some.is) c.certificates_of.ensures
