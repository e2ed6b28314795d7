use Rattle.x509_core.proofs.UnbrokenLinks.{link_is_met}
use Rattle.x509_core.proofs.Validity.{valid_is_met, expired_is_returned, returned_is_expired}
use Rattle.x509_core.proofs.Verdicts.{accepted_is_met}
use Rattle.x509_core.proofs.chain_laws.chains_break_no_rule.Goals as goal

pub returns-clause-window : goal.returns-clause-window
returns-clause-window c = λ w f cause. valid_is_met w f cause

pub returns-clause-expired : goal.returns-clause-expired
returns-clause-expired c = λ w f. (expired_is_returned w f, returned_is_expired w f)

pub returns-clause-link : goal.returns-clause-link
returns-clause-link c = λ judge w count parent child e. link_is_met judge w count parent child e

pub returns-clause-chain : goal.returns-clause-chain
returns-clause-chain c = λ judge checks checked given e. accepted_is_met judge checks checked given e
