use Rattle.std.proofs.Common.{Option, sym, subst}
use Rattle.cms_types.specs.SignedView.{data_elements}
use Rattle.der_core.specs.Optional.{members_of}
use Rattle.der_core.specs.DerElement.{DerElement}
use Rattle.x509_types.specs.CertificateView.{view_elements}
use Rattle.authenticode_core.specs.CertificateBag.{IsBag}
use Rattle.authenticode_core.proofs.NamedCertificates.{bag_of}
use Rattle.authenticode_core.proofs.NamedMembers.{named_where}
use Rattle.authenticode_core.proofs.bag.naming.named_certificate.Goals as goal

pub returns-in-Some-found : goal.returns-in-Some-found
returns-in-Some-found c =
    let walked = c.find_on_walk-asks_for_purposes.ensures in
    let bag = walked.ended.0 in
    let is = bag_of (data_elements c.args.signed_data.now) _ bag c.issuer_walk_of-walk.ensures.members walked.ended.1 in
    let looks = c.issuer_walk_of-walk.ensures.looks bag is in
    let first = c.in-Some.ensures.first bag (subst (λ (o : Option DerElement). IsBag (members_of o) bag) (sym c.certificates.ensures) is) in (
      bag,
      is,
      named_where bag c.args.issuer.now c.args.serial_number.now _ _ _ (view_elements c.in-Some.first) c.in-Some-found.is (walked.found bag _ looks) first
          (walked.asks bag (view_elements c.in-Some.first) looks),
    )
