use Rattle.std.proofs.Common.{◌∷◌}
use Rattle.der_core.specs.DerElement.{row}
use Rattle.x509_types.specs.ExtensionParts.{IsAuthorityKeyIdentifier}
use Rattle.x509_types.proofs.FirstKids.{none_begins, begins}
use Rattle.x509_types.proofs.extension.parts.key_identifier_at.Goals as goal

pub returns-in_err-kids : goal.returns-in_err-kids
returns-in_err-kids c = rw c.from_residual.ensures (λ key is. c.in_err-kids.ensures (row (is.kid ∷ is.kids)) is.is)

pub returns-in_err-first : goal.returns-in_err-first
returns-in_err-first c =
    rw c.from_residual-in_err-first.ensures (λ key. none_begins IsAuthorityKeyIdentifier _ _ key c.in_ok-kids.ensures c.in_err-first.ensures.0)

pub returns : goal.returns
returns c = begins _ IsAuthorityKeyIdentifier _ _ _ _ _ c.in_ok-kids.ensures c.in_ok-first.ensures c.leaf_at.ensures
