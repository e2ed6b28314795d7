use Rattle.der_core.proofs.Sizes.{within_size, light_short, only_memory}
use Rattle.der_core.proofs.laws.small_elements_are_written.Goals as goal

pub returns-clause-bounded : goal.returns-clause-bounded
returns-clause-bounded c = within_size

pub returns-clause-short : goal.returns-clause-short
returns-clause-short c = light_short

pub returns-clause-only_memory : goal.returns-clause-only_memory
returns-clause-only_memory c = only_memory
