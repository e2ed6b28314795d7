use Rattle.std.proofs.Common.{◌∙◌, ap, refl, sym, subst, arith, length, flat_map, List}
use Rattle.sha2.specs.Sha256.{sha256}
use Rattle.x509_core.specs.OwnedCertificate.{KeptCertificate, kept_octets}
use Rattle.der_core.specs.Counting.{IsCount}
use Rattle.demo_core.specs.Acceptance.{IsRootAt, IsValidCount}
use Rattle.demo_core.specs.History.{demo_history}
use Rattle.demo_core.specs.declared.history.Step.{Step}
use Rattle.demo_core.proofs.Whole.{are_few, are_in_order, demonstrated}
use Rattle.demo_core.proofs.demonstration.demonstrate.Goals as goal

pub certificates_of-requires-clause-few : goal.certificates_of-requires-clause-few
certificates_of-requires-clause-few c =
    are_few c.args.count c.deref.result.now (c.deref.ensures.value ∙ c.in_ok-steps.ensures ∙ ap demo_history c.from.ensures)
    (omega (arith, c.ranges.count.fits))

pub certificates_of-requires-clause-order : goal.certificates_of-requires-clause-order
certificates_of-requires-clause-order c =
    are_in_order c.args.count c.deref.result.now (c.deref.ensures.value ∙ c.in_ok-steps.ensures ∙ ap demo_history c.from.ensures)

pub accepted_count-requires-clause-few : goal.accepted_count-requires-clause-few
accepted_count-requires-clause-few c =
    are_few c.args.count c.deref-2.result.now (c.deref-2.ensures.value ∙ c.in_ok-steps.ensures ∙ ap demo_history c.from.ensures)
    (omega (arith, c.ranges.count.fits))

pub root_count-requires : goal.root_count-requires
root_count-requires c = record {
  few = are_few c.args.count c.deref-4.result.now (c.deref-4.ensures.value ∙ c.in_ok-steps.ensures ∙ ap demo_history c.from.ensures)
      (omega (arith, c.ranges.count.fits));
}

pub returns : goal.returns
returns c =
    let given = c.deref.result.now in
    let certificates = c.in_ok-certificates.certificates.items in
    let second = c.deref-2.ensures.value ∙ sym c.deref.ensures.value in
    let fourth = c.deref-4.ensures.value ∙ sym c.deref.ensures.value in
    let roots = subst (λ (s : List Step). IsCount (IsRootAt s) (length s) c.root_count.result) fourth c.root_count.ensures in
    let by_steps = subst (λ (s : List Step). IsValidCount s c.deref-3.result.now c.new_year-date.result (length s) c.in_ok-accepted.accepted)
    second c.in_ok-accepted.ensures in
    let accepted = subst (λ (cs : List KeptCertificate). IsValidCount given cs c.new_year-date.result (length given) c.in_ok-accepted.accepted)
    c.deref-3.ensures.value by_steps in
    demonstrated c.args.count given certificates c.new_year-date.result _ (c.deref.ensures.value ∙ c.in_ok-steps.ensures ∙ ap demo_history c.from.ensures)
    refl c.in_ok-certificates.ensures c.new_year-date.ensures roots accepted
    (c.sum_of.ensures ∙ ap (λ (cs : List KeptCertificate). sha256 (flat_map kept_octets cs)) c.deref-5.ensures.value)
