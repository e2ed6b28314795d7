use Rattle.authenticode_core.specs.Trusted.{IsTrusted}
use Rattle.x509_core.specs.History.{AreAllowed}
use Rattle.authenticode_signature.specs.HistorySignature.{all_checks_at, by_the_first_over}
use Rattle.authenticode_signature.proofs.HistorySignatures.{trusted, allowed, reported, same_trusted, if_ok}
use Rattle.authenticode_signature.proofs.history_laws.histories_decide_signatures.Goals as goal

pub returns-clause-trusted : goal.returns-clause-trusted
returns-clause-trusted c = λ judge history certificates date issuers cert parents now file_hash f a s bag vouches. (
  λ t. (
    reported judge history certificates date issuers cert parents now file_hash f s bag vouches a t,
    allowed judge history certificates date issuers cert parents now file_hash f s bag vouches a t,
  ),
  λ p. same_trusted judge history certificates date issuers cert parents now file_hash f s bag vouches a p.0 p.1,
)

pub returns-clause-accepted : goal.returns-clause-accepted
returns-clause-accepted c = λ judge history certificates date issuers cert parents now octets file_hash answer s by.
    if_ok answer (IsTrusted judge (all_checks_at date now file_hash) by.f) (λ _. AreAllowed history date issuers)
    (λ a t. allowed judge history certificates date issuers cert parents now file_hash by.f s by.bag by.vouches a t) by.trusted

pub returns-clause-answered : goal.returns-clause-answered
returns-clause-answered c = λ judge history certificates date issuers cert parents now octets file_hash answer s by allow.
    by.accepted (by_the_first_over parents) (trusted judge history certificates date issuers cert parents now file_hash by.f s by.bag by.vouches allow)
