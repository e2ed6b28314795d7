use Rattle.x509_core.proofs.OneChain.{chain_once}
use Rattle.x509_core.proofs.OneLink.{window_once, link_once}
use Rattle.x509_core.proofs.chain_laws.chains_have_one_answer.Goals as goal

pub returns-clause-window : goal.returns-clause-window
returns-clause-window c = window_once

pub returns-clause-link : goal.returns-clause-link
returns-clause-link c = link_once

pub returns-clause-chain : goal.returns-clause-chain
returns-clause-chain c = chain_once
