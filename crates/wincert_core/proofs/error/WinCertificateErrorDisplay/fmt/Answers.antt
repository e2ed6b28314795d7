use Rattle.std.proofs.Common.{append_assoc}
use Rattle.wincert_core.proofs.error.WinCertificateErrorDisplay.fmt.Goals as goal

pub returns-in-WrongLength-clause-writes : goal.returns-in-WrongLength-clause-writes
returns-in-WrongLength-clause-writes g c plain ok =
    rw c.in-WrongLength.is (simp append_assoc (c.write-in-WrongLength.ensures.writes plain ok))

pub returns-in-Io-clause-writes : goal.returns-in-Io-clause-writes
returns-in-Io-clause-writes g c plain ok =
    rw c.in-Io.is (simp append_assoc (c.write-in-Io.ensures.writes plain ok))
