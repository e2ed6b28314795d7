-- What a call does follows from a run over its files.
use Rattle.std.proofs.Common.{◌≡◌, ◌⊎◌, ℕ, zero, suc, ◌==◌, ◌<◌, ◌≤◌, List, [], ◌∷◌, ◌++◌, length, Bool, true}
use Rattle.std.proofs.Common.{false, Option, Some, None, IsSome, inl, inr, refl, sym, ◌∙◌, ap, subst, arith}
use Rattle.std.specs.Prelude.{if◌then◌else◌}
use Rattle.std.specs.Prelude.{Any}
use Rattle.std.proofs.lemmas.Bool.{cases_lt}
use Rattle.std.proofs.lemmas.Grind.{common_steps}
use Rattle.program_frame.specs.Limits.{HasFiles, HasLongFile, IsLongFile, IsMissingFile}
use Rattle.program_frame.specs.Commands.{Line, Program, AnswersRead, ForCommand, HasBadText, IsAnswered}
use Rattle.program_frame.specs.Run.{IsRun}
use Rattle.program_frame.specs.Shelf.{Files, ShelfState}
use Rattle.program_frame.specs.Sink.{SinkState}
use Rattle.door_frame.specs.Call.{IsCall, empty_sink, unread_files}
use Rattle.door_frame.specs.Handing.{handed_line}

same_some : {A : Type 0} (x y : A) → Some x ≡ Some y → x ≡ y
same_some x y e = cc

any_behind : {A : Type 0} (P : A → Type 0) (xs ahead behind : List A) (x : A) → xs ≡ ahead ++ x ∷ behind → P x → Any P xs
any_behind P xs ahead behind x are p = (length ahead, x, grind (arith, common_steps), grind (arith, common_steps), p)

-- ---- lines that are handed out

line_low : (status : ℕ) (held : List ℕ) → status ≤ 1 → handed_line status held ≡ held
line_low zero held low = refl
line_low (suc zero) held low = refl
line_low (suc (suc n)) held low = absurd (omega arith)

line_none : (five : Bool) (held : List ℕ) → (five ≡ false → held ≡ []) → (if five then [] else held) ≡ []
line_none true held none = refl
line_none false held none = none refl

-- ---- calls

-- what is said of a shelf of these files
exposed : (state : ShelfState) (files : Files) → state ≡ unread_files files → state.files ≡ Some files
exposed state files is = ap (λ (s : ShelfState). s.files) is

quiet : (state : ShelfState) (files : Files) → state ≡ unread_files files → state.is_quiet
quiet state files is = subst (λ (s : ShelfState). s.is_quiet) (sym is) tt

module _ {Command S : Type 0} (program : Program Command) (words : List (List ℕ)) (state : S → ShelfState) (shelf shelf_now : S) (files : Files)
    (shelf_is : state shelf ≡ unread_files files) (room : ℕ) (out out_now : SinkState) (out_is : out ≡ empty_sink room)
    (held : List ℕ) (held_is : out_now.held ≡ Some held) (status : ℕ)
    (run : IsRun program words state shelf shelf_now out out_now status) where
  -- the files that the shelf exposes are these
  of_files : (Holds : Option Files → Type 0) → Holds (state shelf).files → Holds (Some files)
  of_files Holds h = subst Holds (exposed (state shelf) files shelf_is) h

  for_files : (Holds : Option Files → Type 0) → Holds (Some files) → Holds (state shelf).files
  for_files Holds h = subst Holds (sym (exposed (state shelf) files shelf_is)) h

  is_quiet : (state shelf).is_quiet
  is_quiet = quiet (state shelf) files shelf_is

  is_some : IsSome (state shelf).files
  is_some = for_files (λ (f : Option Files). IsSome f) refl

  -- the sink was empty, with this room
  sink_held : out.held ≡ Some []
  sink_held = ap (λ (o : SinkState). o.held) out_is

  sink_room : out.room ≡ Some room
  sink_room = ap (λ (o : SinkState). o.room) out_is

  -- a run writes no more than the room of its sink
  pub within_room : length held ≤ room
  within_room =
      let after = run.capacity room (record { held = []; room = room; held_is = sink_held; room_is = sink_room; together = omega arith }) in
      let same : after.held ≡ held = same_some after.held held (sym after.held_is ∙ held_is) in
      omega (arith, after.together, ap length same)

  answers : (command : Command) (line : Line) → AnswersRead program (state shelf) (state shelf_now) command line → IsAnswered program (Some files) command line
  answers command line h = of_files (λ (f : Option Files). IsAnswered program f command line) h.is_answered

  reported : status ≤ 1
      → ForCommand program words (λ command. IsAnswered program (Some files) command (record { status = status; text = handed_line status held }))
  reported small =
      let h = run.reported small in
      let text : h.line.text ≡ handed_line status held =
      same_some h.line.text held (sym (h.has_line [] sink_held) ∙ held_is) ∙ sym (line_low status held small) in
      let is : h.line ≡ record { status = status; text = handed_line status held } = λ i. record { status = h.is_status i; text = text i } in
      (h.is_answer.0, h.is_answer.1, subst (IsAnswered program (Some files) h.is_answer.0) is (answers h.is_answer.0 h.line h.is_answer.2))

  no_line : 2 ≤ status → handed_line status held ≡ []
  no_line two = line_none (status == 5) held (λ other. same_some held [] (sym held_is
      ∙ run.nothing_written two (λ five. let e : (status == 5) ≡ true = ap (λ n. n == 5) five in absurd (cc)) [] sink_held))

  no_room : status ≡ 5 → (answer : Line) × ForCommand program words (λ command. IsAnswered program (Some files) command answer) × (room < length answer.text)
  no_room five =
      let h = run.sink_failed five in
      (h.line, (h.is_answer.0, h.is_answer.1, answers h.is_answer.0 h.line h.is_answer.2), omega (arith, h.cut_short.short, h.cut_short.full room sink_room))

  bad_table : status ≡ 3 → ForCommand program words (HasBadText program (Some files))
  bad_table three =
      let h = run.bad_table three in
      (h.0, h.1, of_files (λ (f : Option Files). HasBadText program f h.0) h.2.has_bad_text)

  too_long : status ≡ 6 → ForCommand program words (λ command. HasLongFile (Some files) (program.files_of command))
  too_long six =
      let h = run.too_long six in (
        h.0,
        h.1,
        any_behind (IsLongFile (Some files)) (program.files_of h.0) h.2.ahead h.2.behind h.2.name h.2.names_are
            (of_files (λ (f : Option Files). IsLongFile f h.2.name) (h.2.is_long is_some)),
      )

  too_long_always : (ahead : List (List ℕ))
      → ((status ≡ 6) ⊎ (status ≡ 7)) ⊎ ((status ≡ 4) × ((state shelf).is_quiet → HasFiles (state shelf).files ahead → ⊥))
      → ((status ≡ 6) ⊎ (status ≡ 7)) ⊎ ((status ≡ 4) × (HasFiles (Some files) ahead → ⊥))
  too_long_always ahead (inl long) = inl long
  too_long_always ahead (inr failed) = inr (failed.0, λ there. failed.1 is_quiet (for_files (λ (f : Option Files). HasFiles f ahead) there))

  missing : (command : Command) (ahead behind : List (List ℕ)) (name : List ℕ) → program.AsksFor words command
      → program.files_of command ≡ ahead ++ name ∷ behind → files name ≡ None
      → ((status ≡ 4) ⊎ (status ≡ 7)) ⊎ ((status ≡ 6) × HasLongFile (Some files) ahead)
  missing command ahead behind name some are m =
      of_files (λ (f : Option Files). ((status ≡ 4) ⊎ (status ≡ 7)) ⊎ ((status ≡ 6) × HasLongFile f ahead))
      (run.missing command ahead behind name some are
      (for_files (λ (f : Option Files). IsMissingFile f name) (record { exposed = refl; none = m })))

  answered : (command : Command) (answer : Line) → program.AsksFor words command → IsAnswered program (Some files) command answer
      → (((status ≡ answer.status) × (handed_line status held ≡ answer.text)) ⊎ (status ≡ 7)) ⊎ ((status ≡ 5) × (room < length answer.text))
  answered command answer some is =
      elim (run.answered command answer some is_quiet is_some (for_files (λ (f : Option Files). IsAnswered program f command answer) is)) [
        | inl stands ↦ elim stands [
          | inl reports ↦ inl (inl (reports.0, line_low status held reports.1 ∙ same_some held answer.text (sym held_is ∙ reports.2 [] sink_held)))
          | inr memory ↦ inl (inr memory)
        ]
        | inr lost ↦ inr (
          lost.0,
          elim (cases_lt room (length answer.text)) [
            | inl long ↦ long
            | inr short ↦ absurd (lost.2 (room, sink_room, short))
          ],
        )
      ]

  pub IsCall-run : (line : List ℕ) → line ≡ handed_line status held → IsCall program words files room line status
  IsCall-run line line_is = subst (λ (l : List ℕ). IsCall program words files room l status) (sym line_is) (record {
    bounded = run.bounded;
    reported = reported;
    usage = run.usage.0;
    usage_always = λ none. inl (run.usage.1 none);
    bad_table = bad_table;
    bad_table_always = λ command some bad.
        run.bad_table_always command some is_quiet is_some (for_files (λ (f : Option Files). HasBadText program f command) bad);
    no_file = λ four command some there.
        run.shelf_quiet command some is_quiet (for_files (λ (f : Option Files). HasFiles f (program.files_of command)) there) four;
    missing = missing;
    no_room = no_room;
    too_long = too_long;
    too_long_always = λ command ahead behind name some are long.
        too_long_always ahead (run.too_long_always command ahead behind name some are (for_files (λ (f : Option Files). IsLongFile f name) long));
    no_line = no_line;
    answered = answered;
  })

-- ---- files

-- what holds of a call over borrowed files holds of the files that they are
pub over_given : (Holds : Files → Type 0) (lent given : Files) → ((name : List ℕ) → lent name ≡ given name) → Holds lent → Holds given
over_given Holds lent given are = subst Holds (λ i name. are name i)
