use Rattle.std.proofs.Common.{refl}
use Rattle.std.proofs.lemmas.Bool.{iff_false}
use Rattle.authenticode_core.proofs.signature.code_signing.expect_code_signing.Goals as goal

pub returns-then-names : goal.returns-then-names
returns-then-names c = λ bag returned asked. c.names.ensures.0 c.if-names.true

pub returns-then-named : goal.returns-then-named
returns-then-named c = λ bag returned. (returned.0 c.if-named.true, iff_false c.names.ensures c.if-names.false, refl)

pub returns : goal.returns
returns c = λ bag returned asked. absurd (iff_false returned c.if-named.false asked)
