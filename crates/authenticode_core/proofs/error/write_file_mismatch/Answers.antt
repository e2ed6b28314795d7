use Rattle.std.proofs.Common.{refl}
use Rattle.std.proofs.Output.{has_written_append}
use Rattle.authenticode_core.proofs.error.write_file_mismatch.Goals as goal

-- each piece follows what has been written
pub returns : goal.returns
returns g c plain ok =
    let one = c.in_ok-write_str.ensures.writes plain refl in
    let two = has_written_append _ _ _ _ _ _ one (c.in_ok-write_hexadecimal.ensures one.plain refl) in
    let three = has_written_append _ _ _ _ _ _ two (c.in_ok-write_str-2.ensures.writes two.plain refl) in
    has_written_append _ _ _ _ _ _ three (c.write_hexadecimal-2.ensures three.plain ok)
