use Rattle.x509_types.proofs.Extensions.{bad_critical}
use Rattle.x509_types.proofs.extension.fields.ExtensionFields.of.Goals as goal

pub returns-in_err-critical : goal.returns-in_err-critical
returns-in_err-critical c =
    rw c.from_residual-in_err-critical.ensures
    (λ oid critical octets is. bad_critical _ _ _ _ oid critical octets c.in_ok-kids.ensures c.in_ok-oid.ensures c.in_err-critical.ensures.1 is)
