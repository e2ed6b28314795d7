-- The result for a command follows from reading its files and from their contents.
use Rattle.std.proofs.Common.{◌≡◌, ℕ, List, [], ◌∷◌, ◌++◌, length, Option, IsSome, Result, Ok, Err, IfOk, inl, inr, refl, subst, arith}
use Rattle.std.proofs.lemmas.List.Elements.{All-cons, All-nil}
use Rattle.std.proofs.lemmas.Result.{IfErr-weaker}
use Rattle.der_core.specs.Counts.{FailsOnce}
use Rattle.program_frame.specs.declared.report.Report.{Report}
use Rattle.program_frame.specs.declared.stop.Stop.{Stop}
use Rattle.program_frame.specs.declared.stop.Stop.TheVariants as stop
use Rattle.program_frame.specs.declared.error.FileError.{FileError}
use Rattle.program_frame.specs.declared.error.FileError.TheVariants as file
use Rattle.program_frame.specs.Limits.{IsWholeFile, IsLongFile, IsMissingFile, AreWholeFiles, HasFiles}
use Rattle.program_frame.specs.ReadFiles.{AreRead, AreUnread, FindsLongFile, HandsOutAtMost}
use Rattle.program_frame.specs.Stops.{stop_for_file}
use Rattle.program_frame.specs.Shelf.{Files, ShelfState, file_of}
use Rattle.program_frame.specs.Commands.{Program, AnswersRead}
use Rattle.program_frame.specs.Answering.{IsAnswering, IsReport, IsStopped, StopsForText, line_held}
use Rattle.program_frame.proofs.Failing.{none_failed}
use Rattle.program_frame.proofs.SeveralFiles.{has_file, not_long, not_missing, same_file}

-- ---- whole files

has_files : (files : Option Files) (names contents : List (List ℕ)) → IsSome files → AreWholeFiles files names contents → HasFiles files names
has_files files [] [] t whole = All-nil (λ (name : List ℕ). IsSome (file_of files name))
has_files files [] (octets ∷ contents) t whole = absurd whole
has_files files (name ∷ names) [] t whole = absurd whole
has_files files (name ∷ names) (octets ∷ contents) t whole =
    All-cons (λ (n : List ℕ). IsSome (file_of files n)) name names (has_file files name octets t whole.0) (has_files files names contents t whole.1)

contents_once : (files : Option Files) (names a b : List (List ℕ)) → IsSome files → AreWholeFiles files names a → AreWholeFiles files names b → a ≡ b
contents_once files [] [] [] t x y = refl
contents_once files [] [] (octets ∷ contents) t x y = absurd y
contents_once files [] (octets ∷ contents) b t x y = absurd x
contents_once files (name ∷ names) [] b t x y = absurd x
contents_once files (name ∷ names) (octets ∷ contents) [] t x y = absurd y
contents_once files (name ∷ names) (octets ∷ contents) (other ∷ others) t x y =
    let first = same_file (file_of files name) octets other (x.0.as_exposed t) (y.0.as_exposed t) in
    let behind = contents_once files names contents others t x.1 y.1 in
    cc

nothing_behind : (name : List ℕ) (ahead behind : List (List ℕ)) → ◌≡◌ {A = List (List ℕ)} [] (ahead ++ name ∷ behind) → ⊥
nothing_behind name [] behind are = absurd cc
nothing_behind name (one ∷ ahead) behind are = absurd cc

-- each of them is
one_whole : (files : Option Files) (names contents ahead behind : List (List ℕ)) (name : List ℕ) → AreWholeFiles files names contents
    → names ≡ ahead ++ name ∷ behind → (octets : List ℕ) × IsWholeFile files name octets
one_whole files [] contents ahead behind name whole are = absurd (nothing_behind name ahead behind are)
one_whole files (one ∷ names) [] ahead behind name whole are = absurd whole
one_whole files (one ∷ names) (octets ∷ contents) [] behind name whole are =
    let same : one ≡ name = cc in
    (octets, subst (λ (n : List ℕ). IsWholeFile files n octets) same whole.0)
one_whole files (one ∷ names) (octets ∷ contents) (two ∷ ahead) behind name whole are =
    one_whole files names contents ahead behind name whole.1 (cc)

none_missing : (files : Option Files) (names contents ahead behind : List (List ℕ)) (name : List ℕ) → AreWholeFiles files names contents
    → names ≡ ahead ++ name ∷ behind → IsMissingFile files name → ⊥
none_missing files names contents ahead behind name whole are m =
    let one = one_whole files names contents ahead behind name whole are in not_missing files name one.0 one.1 m

none_long : (files : Option Files) (names contents ahead behind : List (List ℕ)) (name : List ℕ) → AreWholeFiles files names contents
    → names ≡ ahead ++ name ∷ behind → IsLongFile files name → ⊥
none_long files names contents ahead behind name whole are l =
    let one = one_whole files names contents ahead behind name whole are in not_long files name one.0 one.1 l

-- ---- results

-- if memory ran out
answering_memory : {Command : Type 0} (program : Program Command) (before after : ShelfState) (command : Command)
    → HandsOutAtMost (length (program.files_of command)) before after
    → FailsOnce (◌≡◌ {A = Result Report Stop} (Err stop.Memory) (Err stop.Shelf)) before.faults after.faults
    → IsAnswering program before after command (Err stop.Memory)
answering_memory program before after command at_most once = record {
  reported = tt;
  low = tt;
  stopped = tt;
  answered = λ line t asked q. refl;
  bad_text = λ t bad q. inr refl;
  missing = λ ahead behind name are m. inl (inr refl);
  too_long = λ ahead behind name are l. inl (inr refl);
  at_most = at_most;
  once = once;
}

-- if memory ran out for the command itself
pub IsAnswering-memory : {Command : Type 0} (program : Program Command) (shelf : ShelfState) (command : Command)
    → IsAnswering program shelf shelf command (Err stop.Memory)
IsAnswering-memory program shelf command = answering_memory program shelf shelf command (omega arith) (none_failed refl)

module _ {Command : Type 0} (program : Program Command) (before after : ShelfState) (command : Command)
    (at_most : HandsOutAtMost (length (program.files_of command)) before after) where
  all_short : (contents : List (List ℕ)) → AreWholeFiles before.files (program.files_of command) contents → IsSome before.files
      → FindsLongFile before after (program.files_of command) → ⊥
  all_short contents whole t l =
      none_long before.files (program.files_of command) contents l.ahead l.behind l.name whole l.names_are (l.is_long t)

  -- if the files were not all read
  pub IsAnswering-unread : (e : FileError) → FailsOnce (◌≡◌ {A = Result Report Stop} (Err (stop_for_file e)) (Err stop.Shelf)) before.faults after.faults
      → AreUnread before after (program.files_of command) e → IsAnswering program before after command (Err (stop_for_file e))
  IsAnswering-unread file.Fault once h = record {
    reported = tt;
    low = tt;
    stopped = (h.failed refl, λ q there. h.quiet q there refl);
    answered = λ line t asked q. absurd (h.quiet q (has_files before.files (program.files_of command) asked.contents t asked.are_files) refl);
    bad_text = λ t bad q. absurd (h.quiet q (has_files before.files (program.files_of command) bad.contents t bad.are_files) refl);
    missing = λ ahead behind name are m. inl (inl refl);
    too_long = λ ahead behind name are l. inr (refl, λ q there. h.long ahead behind name are l q there refl);
    at_most = at_most;
    once = once;
  }
  IsAnswering-unread file.TooLong once h = record {
    reported = tt;
    low = tt;
    stopped = h.too_long refl;
    answered = λ line t asked q. absurd (all_short asked.contents asked.are_files t (h.too_long refl));
    bad_text = λ t bad q. absurd (all_short bad.contents bad.are_files t (h.too_long refl));
    missing = λ ahead behind name are m. inr (refl, h.missing ahead behind name are m refl);
    too_long = λ ahead behind name are l. inl (inl refl);
    at_most = at_most;
    once = once;
  }
  IsAnswering-unread file.Memory once h = answering_memory program before after command at_most once

  module _ (contents : List (List ℕ)) (read : AreRead before after (program.files_of command) contents) where
    stopped_for_text : (s : Stop) → StopsForText (program.HasBadLine command contents) s → IsStopped program before after command s
    stopped_for_text stop.BadTable bad = record {
      has_bad_text = record { contents = contents; are_files = read.are_files; bad_line = bad };
      given = read.given;
    }
    stopped_for_text stop.Memory bad = tt
    stopped_for_text stop.Usage bad = bad
    stopped_for_text stop.Shelf bad = absurd bad
    stopped_for_text stop.TooLong bad = absurd bad

    answers_read : (report : Report) → program.IsAnswer command contents (line_held report) → program.Promises command contents (line_held report)
        → AnswersRead program before after command (line_held report)
    answers_read report is promised = record {
      is_answered = record { contents = contents; are_files = read.are_files; is_answer = is };
      given = read.given;
      promised = promised;
    }

    reported : (result : Result Report Stop) → IsReport program command contents result
        → IfOk result (λ report. AnswersRead program before after command (line_held report))
    reported (Ok report) h = answers_read report h.reported h.promised
    reported (Err s) h = tt

    -- if all files were read
    pub IsAnswering-read : (result : Result Report Stop) → FailsOnce (result ≡ Err stop.Shelf) before.faults after.faults
        → IsReport program command contents result → IsAnswering program before after command result
    IsAnswering-read result once h = record {
      reported = reported result h;
      low = h.low;
      stopped = IfErr-weaker result _ _ (λ s is. stopped_for_text s is) h.stopped;
      answered = λ line t asked q.
          let same = contents_once before.files (program.files_of command) asked.contents contents t asked.are_files read.are_files in
          h.only line (subst (λ (c : List (List ℕ)). program.IsAnswer command c line) same asked.is_answer);
      bad_text = λ t bad q.
          let same = contents_once before.files (program.files_of command) bad.contents contents t bad.are_files read.are_files in
          h.bad (subst (program.HasBadLine command) same bad.bad_line);
      missing = λ ahead behind name are m. absurd (none_missing before.files (program.files_of command) contents ahead behind name read.are_files are m);
      too_long = λ ahead behind name are l. absurd (none_long before.files (program.files_of command) contents ahead behind name read.are_files are l);
      at_most = at_most;
      once = once;
    }
