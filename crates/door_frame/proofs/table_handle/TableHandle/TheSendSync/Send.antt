-- What a handle owns says the same to every thread.
use base.Fraction.{full_share}
use base.Shift.{Keyless}
use mir.Raw.{raw}
use denote.Memory.{lone}
use denote.RawPtr.{Ptr, block_ptr, null_ptr}
use denote.Param.Send.{IsSend, part_keyless}
use Rattle.std.proofs.Crossing.{frees}
use Rattle.std.specs.declared.option.Option.{Option}
use Rattle.std.specs.declared.option.Option.TheVariants.{None, Some}
use Rattle.program_frame.specs.contracts.known_table.KnownTable as known
use Rattle.program_frame.proofs.known_table.KnownTable.TheSendSync.{the_send as table_send}
use Rattle.door_frame.specs.Handle.{kept}
use Rattle.door_frame.specs.contracts.table_handle.TableHandle.{the_row}

kept_keyless : (p : Ptr) (k : Option known.the_row.Denot) → Keyless (kept p k)
kept_keyless null_ptr None = tt
kept_keyless null_ptr (Some x) = tt
kept_keyless (block_ptr b o) None = tt
kept_keyless (block_ptr b o) (Some x) =
    λ a. (part_keyless known.the_row table_send full_share x b o, frees.frees a (raw (lone known.the_row.mir)) (block_ptr b o))

pub send : IsSend the_row
send = record { owned = λ h vs. ((λ vss. (tt, (tt, tt))), kept_keyless h.inside h.known); leaving = λ k d w. tt }
