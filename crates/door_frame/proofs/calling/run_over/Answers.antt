use Rattle.std.proofs.Common.{◌≤◌, ℕ, List, length, map, take, sym, ap, subst, ◌∙◌}
use Rattle.std.specs.Prelude.{string_bytes}
use Rattle.program_frame.specs.Memory.{sink_held}
use Rattle.door_frame.specs.Call.{IsCall}
use Rattle.door_frame.specs.Files.{lent_files}
use Rattle.door_frame.specs.Handing.{handed_line}
use Rattle.door_frame.specs.Words.{lines_of}
use Rattle.door_frame.proofs.BorrowedCalls.{accepted, is_call, line_fits}
use Rattle.door_frame.proofs.calling.run_over.Goals as goal

pub hand_out-requires : goal.hand_out-requires
hand_out-requires g c =
    let shelf = c.new-shelf.ensures in
    let sink = c.in-Ok-with_room.ensures in
    let fits = line_fits (lent_files c.args.files.now) c.new-shelf.result shelf.files shelf.nothing_left shelf.none_given shelf.no_faults
    g.P.Program.program (map string_bytes c.deref.result.now) (length c.args.line.now) c.run-status.new.shelf c.in-Ok-with_room.sink c.run-status.new.out
    sink.empty sink.room sink.no_faults c.run-status.result c.run-status.ensures.ends in
    subst (λ (held : List ℕ). length held ≤ length c.args.line.now) (sym c.held.ensures) fits

pub returns-clause-called : goal.returns-clause-called
returns-clause-called g c =
    let shelf = c.new-shelf.ensures in
    let sink = c.in-Ok-with_room.ensures in
    let held = ap (λ (h : List ℕ). handed_line c.run-status.result h) c.held.ensures in
    let called = is_call (lent_files c.args.files.now) c.new-shelf.result shelf.files shelf.nothing_left shelf.none_given shelf.no_faults
    g.P.Program.program (map string_bytes c.deref.result.now) (length c.args.line.now) c.run-status.new.shelf c.in-Ok-with_room.sink c.run-status.new.out
    sink.empty sink.room sink.no_faults c.run-status.result c.run-status.ensures.ends (take c.hand_out.result.written c.hand_out.new.buffer)
    (c.hand_out.ensures.line ∙ held) in
    let words = ap (λ ws. map string_bytes ws) c.deref.ensures.value ∙ c.in-Ok.ensures in
    subst (λ (ws : List (List ℕ)). IsCall g.P.Program.program ws (lent_files c.args.files.now) (length c.args.line.now)
    (take c.hand_out.result.written c.hand_out.new.buffer) c.hand_out.result.status) words
    (subst (λ (status : ℕ). IsCall g.P.Program.program (map string_bytes c.deref.result.now) (lent_files c.args.files.now) (length c.args.line.now)
    (take c.hand_out.result.written c.hand_out.new.buffer) status)
    (sym c.hand_out.ensures.status) called)

pub returns-clause-accepted : goal.returns-clause-accepted
returns-clause-accepted g c low =
    let shelf = c.new-shelf.ensures in
    let sink = c.in-Ok-with_room.ensures in
    let words = ap (λ ws. map string_bytes ws) c.deref.ensures.value ∙ c.in-Ok.ensures in
    let status = sym c.hand_out.ensures.status ∙ low in
    accepted (lent_files c.args.files.now) c.new-shelf.result shelf.files shelf.nothing_left shelf.none_given shelf.no_faults g.P.Program.Acceptance
    c.run-status.new.shelf (sink_held c.in-Ok-with_room.sink) sink.empty (sink_held c.run-status.new.out) (take c.hand_out.result.written c.hand_out.new.buffer)
    (map string_bytes c.deref.result.now) (lines_of c.args.words.now) c.run-status.result words status
    (c.hand_out.ensures.line ∙ ap (λ (h : List ℕ). handed_line c.run-status.result h) c.held.ensures) (c.run-status.ensures.accepted status)
