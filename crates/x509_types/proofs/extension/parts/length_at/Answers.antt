use Rattle.std.proofs.Common.{[], ◌∷◌, ◌++◌}
use Rattle.der_core.specs.DerElement.{row}
use Rattle.extension_types.specs.BasicConstraints.{small_integer}
use Rattle.x509_types.proofs.FirstKids.{bad_flag, no_length, more_lengths, ends}
use Rattle.x509_types.proofs.extension.parts.length_at.Goals as goal

pub returns-in_err-kids : goal.returns-in_err-kids
returns-in_err-kids c = rw c.from_residual.ensures (λ number is. c.in_err-kids.ensures (row (is.flag ++ small_integer number ∷ [])) is.is)

pub returns-in_err-_ca : goal.returns-in_err-_ca
returns-in_err-_ca c = rw c.from_residual-in_err-_ca.ensures (λ number. bad_flag _ _ number c.in_ok-kids.ensures c.in_err-_ca.ensures.1)

pub returns-in_err-last : goal.returns-in_err-last
returns-in_err-last c =
    rw c.from_residual-in_err-last.ensures (λ number. no_length _ _ _ _ number c.in_ok-kids.ensures c.in_ok-_ca.ensures c.in_err-last.ensures.0)

pub returns-in_err-end : goal.returns-in_err-end
returns-in_err-end c = rw c.from_residual-in_err-end.ensures
    (λ number. more_lengths _ _ _ _ _ _ number c.in_ok-kids.ensures c.in_ok-_ca.ensures c.in_ok-last.ensures c.in_err-end.ensures)

pub returns : goal.returns
returns c = ends _ _ _ _ _ _ _ c.in_ok-kids.ensures c.in_ok-_ca.ensures c.in_ok-last.ensures c.in_ok-end.ensures c.small_integer_at.ensures
