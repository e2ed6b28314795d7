use Rattle.std.proofs.Common.{ap}
use Rattle.std.proofs.Output.{has_written_of_eq}
use Rattle.asn1_types.specs.ObjectIdentifier.{dotted}
use Rattle.asn1_types.proofs.Identifiers.{one_list_of_arcs}
use Rattle.asn1_types.proofs.oid.traits.ObjectIdentifierDisplay.fmt.Goals as goal

pub returns-clause-writes : goal.returns-clause-writes
returns-clause-writes g c =
    λ plain ok.
    has_written_of_eq _ _ _ _ _
    (ap dotted (one_list_of_arcs _ _ c.lent.result.formed c.args.self.now.formed c.lent.ensures))
    (c.write.ensures.writes plain ok)
