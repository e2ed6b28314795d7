use Rattle.cms_types.specs.SignedView.{data_elements}
use Rattle.authenticode_core.proofs.FormSteps.{other_algorithms, the_algorithm}
use Rattle.authenticode_core.proofs.form.one_algorithm.Goals as goal

pub returns-in-Ok : goal.returns-in-Ok
returns-in-Ok c =
    the_algorithm (data_elements c.args.signed_data.now) c.digest_algorithm_identifiers.result.is.0 c.in-Ok.only.is.0 c.digest_algorithm_identifiers.ensures
    c.in-Ok.ensures

pub returns-in-Err : goal.returns-in-Err
returns-in-Err c =
    other_algorithms (data_elements c.args.signed_data.now) c.digest_algorithm_identifiers.result.is.0 c.in-Err.incorrect_count
    c.digest_algorithm_identifiers.ensures c.in-Err.ensures.0 c.in-Err.ensures.1
