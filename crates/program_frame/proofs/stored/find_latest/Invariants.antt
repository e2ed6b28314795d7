use Rattle.std.proofs.Common.{◌≡◌, ◌<◌, length, take, IfSome}
use Rattle.program_frame.specs.Stored.{latest_file, found_at}
use Rattle.program_frame.proofs.stored.find_latest.Given as goal

abbrev pub invariant-loop-place : goal.invariant-loop-place
invariant-loop-place l = record {
  found : latest_file (take l.place l.files) l.name ≡ found_at l.files l.found;
  within : IfSome l.found (λ place. place < length l.files);
}
