use Rattle.std.proofs.Common.{length, take, ◌-◌, ◌≤◌, ◌≡◌}
use Rattle.program_frame.specs.Sink.{Appends, Lowers, KeepsCapacity}
use Rattle.program_frame.proofs.files.write_report.Given as goal

-- so far a prefix of the text was appended, and the room is less by its length
abbrev pub invariant-loop-done : goal.invariant-loop-done
invariant-loop-done g l = record {
  within : l.done ≤ length l.octets;
  held : Appends (g.O.Sink.state l.initial.out).held (take l.done l.octets) (g.O.Sink.state l.out).held;
  room : Lowers (g.O.Sink.state l.initial.out).room l.done (g.O.Sink.state l.out).room;
  capacity : KeepsCapacity (g.O.Sink.state l.initial.out) (g.O.Sink.state l.out);
  still : (g.O.Sink.state l.out).faults ≡ (g.O.Sink.state l.initial.out).faults;
}

abbrev pub decreases-loop-done : goal.decreases-loop-done
decreases-loop-done g l = length l.octets - l.done
