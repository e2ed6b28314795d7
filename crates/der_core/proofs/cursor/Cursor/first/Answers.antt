use Rattle.std.proofs.Common.{rules, arith}
use Rattle.der_core.proofs.Cursors.{tested_elements, begins_there}
use Rattle.der_core.proofs.cursor.Cursor.first.Goals as goal

pub invariant_of-kids : goal.invariant_of-kids
invariant_of-kids c = record { are = tested_elements c.args.self.now.level _ c.args.self.now.tested (omega arith) }

pub returns : goal.returns
returns c = begins_there c.args.self.now.level _ _ _ _ _ _ _ (search rules) c.in-Some.elem.is.1 (omega arith)
    c.args.self.now.leveled c.args.self.now.tested c.in-Some.ensures
