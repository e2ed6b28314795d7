use Rattle.std.proofs.Common.{append_assoc}
use Rattle.authenticode_core.proofs.error.AuthenticodeErrorDisplay.fmt.Goals as goal

pub returns-in-CaCertificateExpired-clause-writes : goal.returns-in-CaCertificateExpired-clause-writes
returns-in-CaCertificateExpired-clause-writes g c plain ok =
    rw c.in-CaCertificateExpired.is (simp append_assoc (c.write-in-CaCertificateExpired.ensures.writes plain ok))

pub returns-in-CaCertificateNotYetValid-clause-writes : goal.returns-in-CaCertificateNotYetValid-clause-writes
returns-in-CaCertificateNotYetValid-clause-writes g c plain ok =
    rw c.in-CaCertificateNotYetValid.is (simp append_assoc (c.write-in-CaCertificateNotYetValid.ensures.writes plain ok))
