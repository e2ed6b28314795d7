use Rattle.std.proofs.Common.{Option, sym, subst}
use Rattle.x509_core.specs.CertType.{IsOfType}
use Rattle.x509_core.specs.Chain.{nearest}
use Rattle.x509_core.specs.declared.viewed.ViewedCert.{ViewedCert}
use Rattle.x509_core.proofs.validator.type_so_far.Goals as goal

pub returns-in-Some : goal.returns-in-Some
returns-in-Some c =
    subst (λ (last : Option ViewedCert). IsOfType (nearest c.args.checked.now.cert.now last).elements c.ty.result) (sym c.in-Some.is) c.ty.ensures

pub returns-in-None : goal.returns-in-None
returns-in-None c = subst (λ (last : Option ViewedCert). IsOfType (nearest c.args.checked.now.cert.now last).elements c.ty-in-None.result) (sym c.in-None.is)
    c.ty-in-None.ensures
