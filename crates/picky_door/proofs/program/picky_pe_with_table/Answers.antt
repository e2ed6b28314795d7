use Rattle.std.proofs.Common.{ℕ, List, Option, Some, None, sym, ap, ◌∙◌}
use Rattle.std.specs.Prelude.{if◌then◌else◌, bytes_eq, codes}
use Rattle.door_frame.specs.Handle.{text_of}
use Rattle.picky_door.specs.Program.{program_files}
use Rattle.picky_door.proofs.GivenFiles.{either_way}
use Rattle.picky_door.proofs.program.picky_pe_with_table.Goals as goal

pub returns-in-Some-clause-vouched_for : goal.returns-in-Some-clause-vouched_for
returns-in-Some-clause-vouched_for c low =
    c.call-status.ensures.accepted low (program_files c.args.program.now (text_of c.args.table.now.known) c.args.list.now)
    (λ name. ap (λ (table : Option (List ℕ)). program_files c.args.program.now table c.args.list.now name)
    (ap Some c.text.ensures ∙ ap (λ known. Some known.0) c.deref.ensures ∙ sym (ap text_of c.in-Some.ensures.table)))

pub returns-in-Some-clause-called : goal.returns-in-Some-clause-called
returns-in-Some-clause-called c =
    c.call-status.ensures.called (program_files c.args.program.now (text_of c.args.table.now.known) c.args.list.now)
    (λ name. ap (λ (table : Option (List ℕ)). program_files c.args.program.now table c.args.list.now name)
    (ap Some c.text.ensures ∙ ap (λ known. Some known.0) c.deref.ensures ∙ sym (ap text_of c.in-Some.ensures.table)))

pub returns-in-None-clause-vouched_for : goal.returns-in-None-clause-vouched_for
returns-in-None-clause-vouched_for c low =
    c.call.ensures.accepted low (program_files c.args.program.now (text_of c.args.table.now.known) c.args.list.now)
    (λ name. (λ i. if bytes_eq (codes "PROGRAM") name then Some c.args.program.now else if bytes_eq (codes "LIST") name then Some c.args.list.now
    else either_way None (bytes_eq (codes "TABLE") name) i)
    ∙ ap (λ (table : Option (List ℕ)). program_files c.args.program.now table c.args.list.now name) (sym (ap text_of c.in-None.ensures.table)))

pub returns-in-None-clause-called : goal.returns-in-None-clause-called
returns-in-None-clause-called c =
    c.call.ensures.called (program_files c.args.program.now (text_of c.args.table.now.known) c.args.list.now)
    (λ name. (λ i. if bytes_eq (codes "PROGRAM") name then Some c.args.program.now else if bytes_eq (codes "LIST") name then Some c.args.list.now
    else either_way None (bytes_eq (codes "TABLE") name) i)
    ∙ ap (λ (table : Option (List ℕ)). program_files c.args.program.now table c.args.list.now name) (sym (ap text_of c.in-None.ensures.table)))
