use Rattle.x509_types.specs.ExtensionParts.{HasFirstElement, IsAuthorityKeyIdentifier}
use Rattle.x509_types.proofs.FirstExtensions.{said}
use Rattle.x509_types.proofs.FoundSoFar.{none_found, first_found, unheld, held}
use Rattle.x509_types.proofs.certificate.view.CertView.authority_key_identifier.Goals as goal

pub returns-in_err-octets : goal.returns-in_err-octets
returns-in_err-octets c = rw c.from_residual.ensures
    (λ x says. none_found _ _ _ _ c.in_err-octets.was c.args.self.now.first (λ found. found.authority_key) says.1.octets says.1.first)

pub returns-in_err-value : goal.returns-in_err-value
returns-in_err-value c =
    let first = first_found _ _ _ _ _ c.in_ok-octets.was c.args.self.now.first (λ found. found.authority_key) in
    rw c.from_residual-in_err-value.ensures (λ x says. unheld _ (HasFirstElement IsAuthorityKeyIdentifier) _ _ x first c.in_err-value.ensures says)

pub returns : goal.returns
returns c =
    let first = first_found _ _ _ _ _ c.in_ok-octets.was c.args.self.now.first (λ found. found.authority_key) in
    said _ _ (HasFirstElement IsAuthorityKeyIdentifier) _ _ _ (held _ _ _ _ first c.in_ok-value.ensures) c.key_identifier_at.ensures
