use Rattle.std.proofs.Common.{rules, length, ap}
use Rattle.der_core.proofs.InOctets.{none_left, some_left, no_length}
use Rattle.der_core.proofs.kids.Kids.is_empty.Goals as goal

pub returns : goal.returns
returns c = (λ w. none_left _ c.args.self.now.are (no_length _ (search rules)), λ e. let none = ap length (some_left _ c.args.self.now.are e) in search rules)
