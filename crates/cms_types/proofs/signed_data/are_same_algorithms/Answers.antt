use Rattle.key_types.specs.AlgorithmIdentifier.{algorithm_identifier}
use Rattle.key_types.specs.Facts.Algorithms.{algorithms}
use Rattle.cms_types.proofs.Equal.{list_same}
use Rattle.cms_types.proofs.signed_data.are_same_algorithms.Goals as goal

pub returns : goal.returns
returns c = list_same algorithm_identifier algorithms _ _ _ c.eq.ensures
