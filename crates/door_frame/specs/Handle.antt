-- A verdict table that C keeps between calls.
--     kept p table     what a handle with the pointer p owns: at null nothing, and there is no table. Else the box of the table
use Rattle.std.specs.Prelude.{ℕ, List, Option, None, Some}
use base.Fml.{Fml, ftrue, ffalse, fex}
use denote.RawPtr.{Ptr, block_ptr, null_ptr}
use Rattle.std.specs.Box.Ownership.{box_owns}
use Rattle.std.specs.declared.alloc.Global.{Global}
use Rattle.std.specs.contracts.impls.GlobalAllocator.TheImpl.{ghosts}
use Rattle.program_frame.specs.contracts.known_table.KnownTable.{the_row}
use Rattle.sig_core.specs.declared.verdict_row.VerdictRow.{VerdictRow}

abbrev pub kept : Ptr → Option (List ℕ × List VerdictRow) → Fml
kept null_ptr None = ftrue
kept null_ptr (Some table) = ffalse
kept (block_ptr block offset) None = ffalse
kept (block_ptr block offset) (Some table) = fex Global (λ alloc. box_owns (ghosts.dealloc_token alloc) the_row (block_ptr block offset) table)

-- the text of a kept table
abbrev pub text_of : Option (List ℕ × List VerdictRow) → Option (List ℕ)
text_of None = None
text_of (Some table) = Some table.0
