use Rattle.std.proofs.Common.{◌≡◌}
use Rattle.der_core.specs.DerElement.{DerElement}
use Rattle.key_types.specs.AlgorithmIdentifier.{algorithm_identifier}
use Rattle.key_types.specs.declared.algorithm.AlgorithmIdentifier.{AlgorithmIdentifier}
use Rattle.cms_content.specs.Ctl.{IsPurposeList, IsAlgorithmElement, AreEntries}
use Rattle.cms_content.specs.HeldPurposes.{ArePurposes}
use Rattle.cms_content.proofs.CtlFields.{unfit_not, took_integer, took_string, took_tagged, not_begun, usage_row, this_row}
use Rattle.cms_content.proofs.CtlFields.{algorithm_row, entries_row, no_entries, nothing_row, no_more, ctl_whole}
use Rattle.cms_content.proofs.ctl.entries_at.Goals as goal

pub returns-in_err-_usage : goal.returns-in_err-_usage
returns-in_err-_usage c =
    rw c.from_residual-in_err-_usage.ensures (λ es of.
    let usage = usage_row _ _ _ _ es c.in_ok-kids.ensures (took_integer _ _ _ c.next_as-version.ensures) of in
    not_begun IsPurposeList _ _ (unfit_not ArePurposes _ c.in_err-_usage.ensures.1) usage)

pub returns-in_err-_algorithm : goal.returns-in_err-_algorithm
returns-in_err-_algorithm c =
    rw c.from_residual-in_err-_algorithm.ensures (λ es of.
    let usage = usage_row _ _ _ _ es c.in_ok-kids.ensures (took_integer _ _ _ c.next_as-version.ensures) of in
    let this = this_row es _ _ _ _ _ _ _ c.in_ok-_usage.ensures.0 (took_string _ _ _ c.next_as-list_identifier.ensures)
    (took_integer _ _ _ c.next_as-sequence_number.ensures) usage in
    let algorithm = algorithm_row es _ _ _ _ _ c.in_ok-_this_update.ensures.0 c.next_time-next_update.ensures this in
    not_begun IsAlgorithmElement _ _
    (unfit_not (λ (element : DerElement) (value : AlgorithmIdentifier). element ≡ algorithm_identifier value) _ c.in_err-_algorithm.ensures.1) algorithm)

pub returns-in_err-entries : goal.returns-in_err-entries
returns-in_err-entries c =
    rw c.from_residual-in_err-entries.ensures (λ es of.
    let usage = usage_row _ _ _ _ es c.in_ok-kids.ensures (took_integer _ _ _ c.next_as-version.ensures) of in
    let this = this_row es _ _ _ _ _ _ _ c.in_ok-_usage.ensures.0 (took_string _ _ _ c.next_as-list_identifier.ensures)
    (took_integer _ _ _ c.next_as-sequence_number.ensures) usage in
    let algorithm = algorithm_row es _ _ _ _ _ c.in_ok-_this_update.ensures.0 c.next_time-next_update.ensures this in
    no_entries es _ (unfit_not AreEntries _ c.in_err-entries.ensures.1) (entries_row es _ _ _ c.in_ok-_algorithm.ensures.0 algorithm))

pub returns-in_err-end : goal.returns-in_err-end
returns-in_err-end c =
    rw c.from_residual-in_err-end.ensures (λ es of.
    let usage = usage_row _ _ _ _ es c.in_ok-kids.ensures (took_integer _ _ _ c.next_as-version.ensures) of in
    let this = this_row es _ _ _ _ _ _ _ c.in_ok-_usage.ensures.0 (took_string _ _ _ c.next_as-list_identifier.ensures)
    (took_integer _ _ _ c.next_as-sequence_number.ensures) usage in
    let algorithm = algorithm_row es _ _ _ _ _ c.in_ok-_this_update.ensures.0 c.next_time-next_update.ensures this in
    no_more _ c.in_err-end.ensures
    (nothing_row es _ _ _ _ _ c.in_ok-entries.ensures.0 (took_tagged _ _ _ c.next_tagged-extensions.ensures)
    (entries_row es _ _ _ c.in_ok-_algorithm.ensures.0 algorithm)))

pub returns : goal.returns
returns c = (
  c.in_ok-entries.ensures.1,
  λ es list.
      ctl_whole _ _ _ _ _ _ _ _ _ _ _ _ _ _ _ _ _ _ _ _ es c.in_ok-kids.ensures (took_integer _ _ _ c.next_as-version.ensures) c.in_ok-_usage.ensures
      (took_string _ _ _ c.next_as-list_identifier.ensures)
      (took_integer _ _ _ c.next_as-sequence_number.ensures) c.in_ok-_this_update.ensures c.next_time-next_update.ensures c.in_ok-_algorithm.ensures
      c.in_ok-entries.ensures.0
      (took_tagged _ _ _ c.next_tagged-extensions.ensures) c.in_ok-end.ensures list,
)
