use Rattle.authenticode_signature.proofs.KeptAncestors.{alone, kept_by, made_decided}
use Rattle.authenticode_signature.proofs.history_laws.histories_decide_made_signatures.Goals as goal

pub returns-clause-alone : goal.returns-clause-alone
returns-clause-alone c = λ judge history certificates index ancestors cert parents w root.
    alone judge history certificates index ancestors cert parents w root

pub returns-clause-kept : goal.returns-clause-kept
returns-clause-kept c = λ judge history certificates index ancestors cert parents carried w are.
    let k = kept_by judge history certificates index ancestors cert parents carried w are in
    (k.kept, k.certs, k.are_kept, k.are, k.same)

pub returns-clause-decided : goal.returns-clause-decided
returns-clause-decided c = λ judge history certificates index step ancestors cert parents carried date now octets file_hash answer w has valid are by.
    made_decided judge history certificates index step ancestors cert parents carried date now octets file_hash answer w has valid are by
