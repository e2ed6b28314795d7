use Rattle.x509_types.proofs.FirstOnes.{listed_each, had, lies}
use Rattle.x509_types.proofs.laws.first_extensions_are_those_of_certificates.Goals as goal

pub returns : goal.returns
returns c = λ f cert oid are.
    let each = listed_each f.tbs.extensions cert.tbs_certificate.extensions are.tbs.extensions in
    record { had = λ octets. had oid _ _ octets each; lies = λ e. lies oid _ _ e each }
