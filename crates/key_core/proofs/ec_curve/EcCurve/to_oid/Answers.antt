use Rattle.std.proofs.Common.{IsTrue, sym, subst}
use Rattle.asn1_types.specs.KnownIdentifiers.{is_known}
use Rattle.key_core.proofs.Curves.{is_known-curve}
use Rattle.key_core.proofs.ec_curve.EcCurve.to_oid.Goals as goal

pub from_known-requires : goal.from_known-requires
from_known-requires c =
    subst (λ contents. IsTrue (is_known contents)) (sym c.oid_contents.ensures) (is_known-curve c.args.self.now)
