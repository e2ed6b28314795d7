use Rattle.std.proofs.Common.{arith}
use Rattle.std.proofs.lemmas.Grind.{common_steps}
use Rattle.wincert_core.proofs.Spelled.{read_back}
use Rattle.wincert_core.proofs.wincert.WinCertificate.encode.Goals as goal

pub returns-clause-read_back : goal.returns-clause-read_back
returns-clause-read_back c = read_back c.args.self c.resize.new.self.items (grind (arith, common_steps))
