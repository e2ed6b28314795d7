use Rattle.std.proofs.Common.{refl}
use Rattle.asn1_types.specs.KnownIdentifiers.{known_rows}
use Rattle.asn1_types.proofs.oids.rows.Goals as goal

pub returns : goal.returns
unfolding known_rows
returns c = refl
