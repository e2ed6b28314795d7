use Rattle.std.proofs.Common.{arith, ap, sym, ◌∙◌}
use Rattle.std.specs.Int.{w32, from_le_bytes}
use Rattle.pe_core.specs.Fields.{u32_at}
use Rattle.pe_core.proofs.Numbers.{four_at}
use Rattle.pe_core.proofs.fields.u32_at.Goals as goal

pub returns : goal.returns
unfolding u32_at
returns c =
    let found = c.in_ok-get.ensures.lookup.0 in
    let enough = c.in-len4-up.len_at_least in
    let octets = four_at c.args.bytes.now c.in_ok-get.field-0.now c.args.offset found.2 enough in
    (omega (arith, found.3, enough), c.from_le_bytes.ensures ∙ sym (ap (from_le_bytes w32) octets))
