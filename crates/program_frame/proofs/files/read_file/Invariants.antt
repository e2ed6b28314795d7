use Rattle.std.proofs.Common.{◌≡◌, ◌+◌, ◌-◌, ◌≤◌, length, IsSome}
use Rattle.der_core.specs.Counts.{GoesOn}
use Rattle.program_frame.specs.Limits.{longest_file}
use Rattle.program_frame.specs.ReadFiles.{HandsOut}
use Rattle.program_frame.specs.Shelf.{file_of}
use Rattle.program_frame.proofs.Reading.{HasRead}
use Rattle.program_frame.proofs.files.read_file.Given as goal

abbrev pub invariant-loop-piece : goal.invariant-loop-piece
invariant-loop-piece g l = record {
  within : length l.octets.items ≤ longest_file + 1;
  size : length l.piece ≡ 16384;
  read : IsSome (g.F.Shelf.state l.fn.shelf).files → HasRead (g.F.Shelf.state l.fn.shelf).files l.name l.octets.items (g.F.Shelf.state l.shelf).rest;
  given : HandsOut (length l.octets.items) (g.F.Shelf.state l.fn.shelf) (g.F.Shelf.state l.shelf);
  kept : GoesOn (g.F.Shelf.state l.fn.shelf).given (g.F.Shelf.state l.shelf).given;
  counted : GoesOn (g.F.Shelf.state l.fn.shelf).faults (g.F.Shelf.state l.shelf).faults;
  still : (g.F.Shelf.state l.shelf).faults ≡ (g.F.Shelf.state l.fn.shelf).faults;
  same : (g.F.Shelf.state l.shelf).files ≡ (g.F.Shelf.state l.fn.shelf).files;
  quiet : (g.F.Shelf.state l.fn.shelf).is_quiet → IsSome (file_of (g.F.Shelf.state l.fn.shelf).files l.name) → (g.F.Shelf.state l.shelf).is_quiet;
}

abbrev pub decreases-loop-piece : goal.decreases-loop-piece
decreases-loop-piece g l = longest_file + 1 - length l.octets.items
