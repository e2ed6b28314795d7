use Rattle.std.proofs.Common.{Option, refl, sym, subst}
use Rattle.der_core.specs.DerElement.{DerElement}
use Rattle.der_core.specs.Optional.{members_of}
use Rattle.authenticode_core.specs.CertificateBag.{IsBag}
use Rattle.authenticode_core.proofs.bag.naming.named_at_place.Goals as goal

pub returns-in_err-elem : goal.returns-in_err-elem
returns-in_err-elem c =
    rw c.from_residual.ensures
    (λ bag is. c.in_err-elem.ensures.first bag (subst (λ (o : Option DerElement). IsBag (members_of o) bag) (sym c.certificates.ensures) is))

pub returns : goal.returns
returns c = λ bag is.
    (refl, c.in_ok-elem.ensures.first bag (subst (λ (o : Option DerElement). IsBag (members_of o) bag) (sym c.certificates.ensures) is))
