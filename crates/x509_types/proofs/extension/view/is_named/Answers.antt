use Rattle.std.proofs.lemmas.Slice.Eq.{bytes_eq-Decides}
use Rattle.der_core.specs.Facts.Equality.{same_tests}
use Rattle.x509_types.proofs.extension.view.is_named.Goals as goal

pub returns : goal.returns
returns c = same_tests _ _ c.is_same.ensures (bytes_eq-Decides _ _)
