use Rattle.x509_types.proofs.ExtensionValues.{subject_kept, issuer_kept}
use Rattle.x509_types.proofs.extension.view.read_kind.Goals as goal

pub returns-in_ok-from_slice-in-None : goal.returns-in_ok-from_slice-in-None
returns-in_ok-from_slice-in-None c =
    subject_kept _ _ _ _ c.in-SubjectAltName.is c.in-None.is c.in_ok-names-in-SubjectAltName.ensures c.in_ok-from_slice-in-None.ensures

pub returns-in_ok-from_slice-in-None-2 : goal.returns-in_ok-from_slice-in-None-2
returns-in_ok-from_slice-in-None-2 c =
    issuer_kept _ _ _ _ c.in-IssuerAltName.is c.in-None-2.is c.in_ok-names-in-IssuerAltName.ensures c.in_ok-from_slice-in-None-2.ensures
