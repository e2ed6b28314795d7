use Rattle.authenticode_core.proofs.Tokens.{no_attribute, no_stamps, no_value, token_or_none}
use Rattle.authenticode_core.proofs.excuse.token.token_of.Goals as goal

pub returns-in_err-signer : goal.returns-in_err-signer
returns-in_err-signer c = rw c.from_residual.ensures (λ t has. c.in_err-signer.ensures has.g has.signer)

pub returns-in_err-attribute : goal.returns-in_err-attribute
returns-in_err-attribute c = rw c.from_residual-in_err-attribute.ensures (λ t has. no_attribute _ t _ c.in_ok-signer.ensures c.in_err-attribute.ensures has)

pub returns-in_err-tokens : goal.returns-in_err-tokens
returns-in_err-tokens c =
    rw c.from_residual-in_err-tokens.ensures (λ t has. no_stamps _ t _ _ _ c.in_ok-signer.ensures c.in_ok-attribute.ensures.1 c.in_err-tokens.ensures has)

pub returns-in_err-first : goal.returns-in_err-first
returns-in_err-first c = rw c.from_residual-in_err-first.ensures
    (λ t has. no_value _ t _ _ _ c.in_ok-signer.ensures c.in_ok-attribute.ensures.1 _ c.in_ok-tokens.ensures c.in_err-first.ensures.0 has)

pub returns : goal.returns
returns c =
    token_or_none c.read.result _ _ _ _ _ _ _ c.in_ok-signer.ensures c.in_ok-attribute.ensures.1 c.in_ok-tokens.ensures c.in_ok-first.ensures c.read.ensures
