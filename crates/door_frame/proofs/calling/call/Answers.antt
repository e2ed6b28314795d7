use Rattle.std.proofs.Common.{◌≡◌, ℕ, List, Option, Some, length, take, subst}
use Rattle.std.specs.Borrow.{Bor}
use Rattle.program_frame.specs.Shelf.{Files}
use Rattle.door_frame.specs.Call.{IsAcceptedCall, IsCall}
use Rattle.door_frame.specs.Files.{AreLent, lent_files}
use Rattle.door_frame.specs.Words.{lines_of}
use Rattle.door_frame.specs.declared.files.LentFile.{LentFile}
use Rattle.door_frame.proofs.Calls.{over_given}
use Rattle.door_frame.proofs.calling.call.Goals as goal

are_given : (files : Option (Bor (List LentFile))) (lent : Bor (List LentFile)) (given : Files) → files ≡ Some lent → AreLent files given
    → (name : List ℕ) → lent_files lent.now name ≡ given name
are_given files lent given is are = subst (λ (fs : Option (Bor (List LentFile))). AreLent fs given) is are

pub returns-clause-called : goal.returns-clause-called
returns-clause-called g c given are = record {
  call = λ utf8. over_given (λ (fs : Files). IsCall g.P.Program.program (lines_of c.args.words.now) fs (length c.args.line.now)
      (take c.run_over-handed.result.written c.run_over-handed.new.line) c.run_over-handed.result.status)
      (lent_files c.in-Some.files.now) given (are_given c.args.files c.in-Some.files given c.in-Some.is are)
      (subst (λ (words : List ℕ). IsCall g.P.Program.program (lines_of words) (lent_files c.in-Some.files.now) (length c.args.line.now)
      (take c.run_over-handed.result.written c.run_over-handed.new.line) c.run_over-handed.result.status)
      c.in-Ok.ensures.cases.0 c.run_over-handed.ensures.called);
  no_words = λ bad. absurd (bad c.in-Ok.ensures.cases.1);
}

pub returns-clause-accepted : goal.returns-clause-accepted
returns-clause-accepted g c low given are =
    over_given (λ (fs : Files). IsAcceptedCall g.P.Program.Acceptance c.args.words.now fs (take c.run_over-handed.result.written c.run_over-handed.new.line))
    (lent_files c.in-Some.files.now) given (are_given c.args.files c.in-Some.files given c.in-Some.is are)
    (subst (λ (words : List ℕ).
    IsAcceptedCall g.P.Program.Acceptance words (lent_files c.in-Some.files.now) (take c.run_over-handed.result.written c.run_over-handed.new.line))
    c.in-Ok.ensures.cases.0 (c.run_over-handed.ensures.accepted low))
