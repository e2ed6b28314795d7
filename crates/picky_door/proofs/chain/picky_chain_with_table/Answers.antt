use Rattle.std.proofs.Common.{◌≡◌, ℕ, List, Option, Some, None, IfOk, sym, ap, subst, ◌∙◌}
use Rattle.std.specs.Prelude.{bytes_eq, codes}
use Rattle.std.proofs.lemmas.Result.{IfOk-weaker}
use Rattle.door_frame.specs.Files.{lent_files}
use Rattle.door_frame.specs.Handle.{text_of}
use Rattle.door_frame.specs.Pool.{pooled_files}
use Rattle.picky_door.specs.Chain.{chain_files}
use Rattle.picky_door.proofs.GivenFiles.{without_table}
use Rattle.picky_door.proofs.chain.picky_chain_with_table.Goals as goal

pub returns-in-Some-clause-vouched_for : goal.returns-in-Some-clause-vouched_for
returns-in-Some-clause-vouched_for c low =
    let files = chain_files (text_of c.args.table.now.known) c.args.certificates.now c.args.lengths.now in
    let is = ap Some c.text.ensures ∙ ap (λ known. Some known.0) c.deref.ensures ∙ sym (ap text_of c.in-Some.ensures.table) in
    c.call-status.ensures.accepted low files (c.borrowed.ensures files
    (subst (λ (table : Option (List ℕ)). IfOk c.files_of-files.result (λ fs. (name : List ℕ)
    → lent_files fs.items name ≡ chain_files table c.args.certificates.now c.args.lengths.now name)) is c.files_of-files.ensures))

pub returns-in-Some-clause-called : goal.returns-in-Some-clause-called
returns-in-Some-clause-called c =
    let files = chain_files (text_of c.args.table.now.known) c.args.certificates.now c.args.lengths.now in
    let is = ap Some c.text.ensures ∙ ap (λ known. Some known.0) c.deref.ensures ∙ sym (ap text_of c.in-Some.ensures.table) in
    c.call-status.ensures.called files (c.borrowed.ensures files
    (subst (λ (table : Option (List ℕ)). IfOk c.files_of-files.result (λ fs. (name : List ℕ)
    → lent_files fs.items name ≡ chain_files table c.args.certificates.now c.args.lengths.now name)) is c.files_of-files.ensures))

pub returns-in-None-clause-vouched_for : goal.returns-in-None-clause-vouched_for
returns-in-None-clause-vouched_for c low =
    let files = chain_files (text_of c.args.table.now.known) c.args.certificates.now c.args.lengths.now in
    c.call.ensures.accepted low files (c.borrowed-in-None.ensures files (IfOk-weaker c.pooled-files.result _ _ (λ fs are name. are name
    ∙ without_table (pooled_files c.args.certificates.now c.args.lengths.now name) (text_of c.args.table.now.known) (bytes_eq (codes "TABLE") name)
    (sym (ap text_of c.in-None.ensures.table))) c.pooled-files.ensures))

pub returns-in-None-clause-called : goal.returns-in-None-clause-called
returns-in-None-clause-called c =
    let files = chain_files (text_of c.args.table.now.known) c.args.certificates.now c.args.lengths.now in
    c.call.ensures.called files (c.borrowed-in-None.ensures files (IfOk-weaker c.pooled-files.result _ _ (λ fs are name. are name
    ∙ without_table (pooled_files c.args.certificates.now c.args.lengths.now name) (text_of c.args.table.now.known) (bytes_eq (codes "TABLE") name)
    (sym (ap text_of c.in-None.ensures.table))) c.pooled-files.ensures))
