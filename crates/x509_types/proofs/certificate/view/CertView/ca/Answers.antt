use Rattle.der_core.specs.Default.{IsBoolean}
use Rattle.x509_types.specs.ExtensionParts.{HasFirstElement}
use Rattle.x509_types.proofs.FirstExtensions.{said}
use Rattle.x509_types.proofs.FoundSoFar.{none_found, first_found, unheld, held}
use Rattle.x509_types.proofs.certificate.view.CertView.ca.Goals as goal

pub returns-in_err-octets : goal.returns-in_err-octets
returns-in_err-octets c =
    rw c.from_residual.ensures (λ x says. none_found _ _ _ _ c.in_err-octets.was c.args.self.now.first (λ found. found.constraints) says.1.octets says.1.first)

pub returns-in_err-constraints : goal.returns-in_err-constraints
returns-in_err-constraints c =
    let first = first_found _ _ _ _ _ c.in_ok-octets.was c.args.self.now.first (λ found. found.constraints) in
    rw c.from_residual-in_err-constraints.ensures (λ x says. unheld _ (HasFirstElement IsBoolean) _ _ x first c.in_err-constraints.ensures says)

pub returns : goal.returns
returns c =
    let first = first_found _ _ _ _ _ c.in_ok-octets.was c.args.self.now.first (λ found. found.constraints) in
    said _ _ (HasFirstElement IsBoolean) _ _ _ (held _ _ _ _ first c.in_ok-constraints.ensures) c.flag_at.ensures
