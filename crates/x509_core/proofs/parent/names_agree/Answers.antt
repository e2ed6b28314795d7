use Rattle.x509_core.proofs.Names.{same_elements}
use Rattle.x509_core.proofs.parent.names_agree.Goals as goal

pub returns : goal.returns
returns c = same_elements _ _ _ _ _ c.args.child.parts.fields.issuer.is.1.0 c.args.parent.parts.fields.subject.is.1.0 c.issuer.ensures c.subject.ensures
    c.is_same.ensures
