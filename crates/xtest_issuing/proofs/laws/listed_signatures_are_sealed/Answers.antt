use Rattle.xtest_issuing.proofs.ListedRows.{sealed}
use Rattle.xtest_issuing.proofs.laws.listed_signatures_are_sealed.Goals as goal

pub returns : goal.returns
returns c = sealed
