use Rattle.std.proofs.Common.{refl, ◌∙◌, ap}
use Rattle.std.specs.Prelude.{drop}
use Rattle.program_frame.proofs.Adding.{latest-push, octets_at-push}
use Rattle.program_frame.proofs.memory.MemShelf.add.Goals as goal

pub returns-clause-added : goal.returns-clause-added
returns-clause-added c other =
    rw c.in_ok-push.ensures.items
    (latest-push c.args.self.now.files.items _ other ∙ rw (c.in_ok-from_str.ensures.ok, c.in_ok-from_slice.ensures.items) refl)

pub returns-clause-place : goal.returns-clause-place
returns-clause-place c = record {
  rest = ap (drop c.args.self.now.at) (rw c.in_ok-push.ensures.items (octets_at-push _ _ _ c.args.self.now.within));
  given = refl;
  faults = refl;
  calls = refl;
}
