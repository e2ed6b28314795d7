use Rattle.std.proofs.Common.{subst, sym}
use Rattle.asn1_types.specs.ObjectIdentifier.{IsIdentifier}
use Rattle.asn1_types.proofs.KnownTable.{known_is}
use Rattle.asn1_types.proofs.oid.ObjectIdentifier.from_known.Goals as goal

pub invariant_of-result : goal.invariant_of-result
invariant_of-result c = record {
  formed = subst IsIdentifier (sym c.in_ok-from_slice.ensures) (known_is c.args.contents.now c.requires);
}
