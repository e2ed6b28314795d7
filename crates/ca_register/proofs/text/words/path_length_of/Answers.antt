use Rattle.std.proofs.Common.{Some, None, refl, arith, rules}
use Rattle.ca_register.proofs.Numbers.{no_sign}
use Rattle.ca_register.proofs.text.words.path_length_of.Goals as goal

pub returns-then-eq-clause-only : goal.returns-then-eq-clause-only
returns-then-eq-clause-only c None is spelled = refl
returns-then-eq-clause-only c (Some number) is spelled = absurd (no_sign number (omega (arith, is)) (search rules))
