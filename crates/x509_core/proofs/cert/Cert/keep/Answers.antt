use Rattle.x509_core.proofs.OwnedFields.{has_fields}
use Rattle.x509_core.proofs.cert.Cert.keep.Goals as goal

pub of_parts-requires : goal.of_parts-requires
of_parts-requires c = has_fields _ _ _ c.args.kept.der c.requires c.split-rest.ensures
