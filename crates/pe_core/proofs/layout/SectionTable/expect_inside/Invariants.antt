use Rattle.std.proofs.Common.{ℕ, ◌<◌}
use Rattle.pe_core.specs.Layout.{IsInside}
use Rattle.pe_core.proofs.layout.SectionTable.expect_inside.Given as goal

-- the sections so far are inside
abbrev pub invariant-loop-section : goal.invariant-loop-section
invariant-loop-section l = (earlier : ℕ) → earlier < l.section → IsInside l.self.file.now earlier
