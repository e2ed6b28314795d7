-- What a call does follows from a run over a new shelf of borrowed files and an empty sink.
use Rattle.std.proofs.Common.{◌≡◌, ℕ, ◌≤◌, List, [], length, Option, Some, refl, sym, ap, subst, ◌∙◌}
use Rattle.program_frame.specs.Memory.{sink_faults, sink_held, sink_room, sink_state}
use Rattle.program_frame.specs.Commands.{Program}
use Rattle.program_frame.specs.Run.{IsRun}
use Rattle.program_frame.specs.Shelf.{Files, ShelfState}
use Rattle.program_frame.specs.declared.memory.MemSink.{MemSink}
use Rattle.door_frame.specs.Call.{ForShelf, IsCall, empty_sink, unread_files}
use Rattle.door_frame.specs.Files.{lent_files}
use Rattle.door_frame.specs.Handing.{handed_line}
use Rattle.door_frame.specs.Borrowed.{lent_state}
use Rattle.door_frame.specs.declared.borrowed_shelf.LentShelf.{LentShelf}
use Rattle.door_frame.proofs.Calls.{IsCall-run, within_room}

unread : (shelf : LentShelf) (files : Files) → (lent_state shelf).files ≡ Some files → (lent_state shelf).rest ≡ Some [] → (lent_state shelf).given ≡ 0
    → (lent_state shelf).faults ≡ 0 → lent_state shelf ≡ unread_files files
unread shelf files files_are rest_is given_is faults_are = λ i. record {
  files = files_are i;
  rest = rest_is i;
  given = given_is i;
  faults = faults_are i;
  is_quiet = Unit {0};
}

empty : (out : MemSink) (room : ℕ) → sink_held out ≡ [] → sink_room out ≡ room → sink_faults out ≡ 0 → sink_state out ≡ empty_sink room
empty out room held_is room_is faults_are = λ i. record { held = Some (held_is i); room = Some (room_is i); faults = faults_are i }

module _ (files : Files) (shelf : LentShelf) (files_are : (lent_state shelf).files ≡ Some files) (rest_is : (lent_state shelf).rest ≡ Some [])
    (given_is : (lent_state shelf).given ≡ 0) (faults_are : (lent_state shelf).faults ≡ 0) where
  -- what holds of a run's shelf holds of the files
  of_new_shelf : (Holds : ShelfState → ShelfState → Type 0) (shelf_now : LentShelf) → Holds (lent_state shelf) (lent_state shelf_now)
      → ForShelf (λ now. Holds (unread_files files) now)
  of_new_shelf Holds shelf_now holds = record {
    files = lent_files shelf_now.files.now;
    rest = shelf_now.rest.now;
    given = shelf_now.given;
    faults = shelf_now.faults;
    holds = subst (λ (s : ShelfState). Holds s (lent_state shelf_now)) (unread shelf files files_are rest_is given_is faults_are) holds;
  }

  module _ {Command : Type 0} (program : Program Command) (words : List (List ℕ)) (room : ℕ)
      (shelf_now : LentShelf) (out out_now : MemSink) (held_is : sink_held out ≡ []) (room_is : sink_room out ≡ room) (none : sink_faults out ≡ 0) (status : ℕ)
      (run : IsRun program words lent_state shelf shelf_now (sink_state out) (sink_state out_now) status) where
    -- the line fits into a buffer of the sink's room
    pub line_fits : length (sink_held out_now) ≤ room
    line_fits = within_room program words lent_state shelf shelf_now files (unread shelf files files_are rest_is given_is faults_are) room
        (sink_state out) (sink_state out_now) (empty out room held_is room_is none) (sink_held out_now) refl status run

    pub is_call : (line : List ℕ) → line ≡ handed_line status (sink_held out_now) → IsCall program words files room line status
    is_call = IsCall-run program words lent_state shelf shelf_now files (unread shelf files files_are rest_is given_is faults_are) room
        (sink_state out) (sink_state out_now) (empty out room held_is room_is none) (sink_held out_now) refl status run

  -- what acceptance of the run means holds of the call
  pub accepted : (Acceptance : List (List ℕ) → ShelfState → ShelfState → Option (List ℕ) → Option (List ℕ) → Type 0)
      (shelf_now : LentShelf) (held : List ℕ) (held_is : held ≡ []) (held_now line : List ℕ) (words lines : List (List ℕ)) (status : ℕ)
      → words ≡ lines → status ≡ 0 → line ≡ handed_line status held_now
      → Acceptance words (lent_state shelf) (lent_state shelf_now) (Some held) (Some held_now)
      → ForShelf (λ now. Acceptance lines (unread_files files) now (Some []) (Some line))
  accepted Acceptance shelf_now held held_is held_now line words lines status words_are low line_is holds =
      of_new_shelf (λ before now. Acceptance lines before now (Some []) (Some line)) shelf_now
      (subst (λ (l : List ℕ). Acceptance lines (lent_state shelf) (lent_state shelf_now) (Some []) (Some l))
      (sym (line_is ∙ ap (λ s. handed_line s held_now) low))
      (subst (λ (h : List ℕ). Acceptance lines (lent_state shelf) (lent_state shelf_now) (Some h) (Some held_now)) held_is
      (subst (λ (ws : List (List ℕ)). Acceptance ws (lent_state shelf) (lent_state shelf_now) (Some held) (Some held_now)) words_are holds)))
