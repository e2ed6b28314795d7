use Rattle.name_types.specs.Text.{ascii_text}
use Rattle.name_types.proofs.text.write_ascii.Given as goal
use Rattle.std.proofs.Common.{take}
use Rattle.std.specs.Fmt.{HasWritten, IsPlainFormatter}

abbrev pub invariant-loop-octet : goal.invariant-loop-octet
invariant-loop-octet g l =
    IsPlainFormatter l.fn.f → HasWritten g.W.Write.write_str_gives l.fn.f (ascii_text (take l.octet-index l.octets)) l.f
