use Rattle.x509_core.proofs.SealedHistories.{accepted_is_of_valid}
use Rattle.x509_core.proofs.history_laws.sealed_histories_accept_no_others.Goals as goal

pub returns : goal.returns
returns c = λ judge history certificates date root anchor checked parent parents issued is_sealed is_root is_anchor ends accepted.
    accepted_is_of_valid judge history certificates date issued is_sealed root anchor is_root is_anchor checked parent parents ends accepted
