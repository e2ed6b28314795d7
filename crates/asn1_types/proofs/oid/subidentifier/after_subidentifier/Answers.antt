use Rattle.std.proofs.Common.{arith}
use Rattle.asn1_types.proofs.Subidentifiers.{of_one, of_two, of_three}
use Rattle.asn1_types.proofs.oid.subidentifier.after_subidentifier.Goals as goal

pub returns-in-len1-up : goal.returns-in-len1-up
returns-in-len1-up c = of_one c.args.octets.now c.in-len1-up.len_at_least (omega arith)

pub returns-in-len2-up : goal.returns-in-len2-up
returns-in-len2-up c = of_two c.args.octets.now c.in-len2-up.len_at_least (omega arith) (omega (arith, c.type_inv.octets 0)) (omega arith)

pub returns-in-len3-up : goal.returns-in-len3-up
returns-in-len3-up c = of_three c.args.octets.now c.in-len3-up.len_at_least (omega arith) (omega (arith, c.type_inv.octets 0)) (omega arith)
    (omega (arith, c.type_inv.octets 1)) (omega arith)
