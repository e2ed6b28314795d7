use Rattle.std.proofs.Common.{IsTrue, sym, subst}
use Rattle.asn1_types.specs.KnownIdentifiers.{is_known}
use Rattle.sig_core.proofs.Variants.{is_known-variant}
use Rattle.sig_core.proofs.sha_variant.ShaVariant.to_oid.Goals as goal

pub from_known-requires : goal.from_known-requires
from_known-requires c =
    subst (λ contents. IsTrue (is_known contents)) (sym c.oid_contents.ensures) (is_known-variant c.args.self)
