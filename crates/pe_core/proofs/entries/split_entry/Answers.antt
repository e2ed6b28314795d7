use Rattle.std.proofs.Common.{arith}
use Rattle.pe_core.proofs.Tables.{no_short, no_long, cut}
use Rattle.pe_core.proofs.entries.split_entry.Goals as goal

pub returns-then-size-lt-HEADER_LENGTH : goal.returns-then-size-lt-HEADER_LENGTH
returns-then-size-lt-HEADER_LENGTH c = no_short c.args.bytes.now c.in_ok-size.field-0 c.in_ok-size.ensures.1 (omega arith)

pub returns-then-bytes-size : goal.returns-then-bytes-size
returns-then-bytes-size c = no_long c.args.bytes.now c.in_ok-size.field-0 c.in_ok-size.ensures.1 (omega arith)

pub returns : goal.returns
returns c =
    let parts = c.split_at.result in
    cut c.args.bytes.now parts.0.now parts.1.now c.in_ok-size.field-0 c.in_ok-size.ensures.1 (omega arith)
    c.split_at.ensures.by_index.0 c.split_at.ensures.front_len
