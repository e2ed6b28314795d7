-- What a run does follows from the result for the files, and from what the sink accepted.
use Rattle.std.proofs.Common.{◌≡◌, ◌≢◌, ◌⊎◌, ℕ, ◌≤◌, List, length, Option, Some, None, IsSome, Result, Ok, Err, inl, inr, refl, sym, ◌∙◌, ap, subst, arith}
use Rattle.std.specs.Prelude.{string_bytes}
use Rattle.der_core.specs.Counts.{FailsOnce, HasRisen}
use Rattle.program_frame.specs.declared.report.Report.{Report}
use Rattle.program_frame.specs.declared.stop.Stop.{Stop}
use Rattle.program_frame.specs.declared.stop.Stop.TheVariants as stop
use Rattle.program_frame.specs.Answering.{GivesLine, GivesStop, IsAnswering, IsStopped, line_held}
use Rattle.program_frame.specs.Commands.{Line, Program, AsksForNothing, IsAnswered, IsParsed, parsed_held}
use Rattle.program_frame.specs.Limits.{HasFiles, HasLongFile}
use Rattle.program_frame.specs.Run.{IsRun, IsRunAnswer, LacksRoom}
use Rattle.program_frame.specs.Shelf.{ShelfState}
use Rattle.program_frame.specs.Ending.{Delivers, Ends}
use Rattle.program_frame.specs.Sink.{SinkState, Appends, HasRoom, IsCutShort, KeepsCapacity}
use Rattle.program_frame.specs.Stops.{status_for}
use Rattle.program_frame.proofs.Answerings.{IsAnswering-memory}
use Rattle.program_frame.proofs.Failing.{failed_as, none_failed, stands}

status_bounded : (s : Stop) → status_for s ≤ 7
status_bounded stop.Usage = omega arith
status_bounded stop.BadTable = omega arith
status_bounded stop.Shelf = omega arith
status_bounded stop.TooLong = omega arith
status_bounded stop.Memory = omega arith

status_least : (s : Stop) → 2 ≤ status_for s
status_least stop.Usage = omega arith
status_least stop.BadTable = omega arith
status_least stop.Shelf = omega arith
status_least stop.TooLong = omega arith
status_least stop.Memory = omega arith

is_usage : (s : Stop) → status_for s ≡ 2 → s ≡ stop.Usage
is_usage stop.Usage e = refl
is_usage stop.BadTable e = absurd (omega arith)
is_usage stop.Shelf e = absurd (omega arith)
is_usage stop.TooLong e = absurd (omega arith)
is_usage stop.Memory e = absurd (omega arith)

is_bad_table : (s : Stop) → status_for s ≡ 3 → s ≡ stop.BadTable
is_bad_table stop.BadTable e = refl
is_bad_table stop.Usage e = absurd (omega arith)
is_bad_table stop.Shelf e = absurd (omega arith)
is_bad_table stop.TooLong e = absurd (omega arith)
is_bad_table stop.Memory e = absurd (omega arith)

is_shelf : (s : Stop) → status_for s ≡ 4 → s ≡ stop.Shelf
is_shelf stop.Shelf e = refl
is_shelf stop.Usage e = absurd (omega arith)
is_shelf stop.BadTable e = absurd (omega arith)
is_shelf stop.TooLong e = absurd (omega arith)
is_shelf stop.Memory e = absurd (omega arith)

is_too_long : (s : Stop) → status_for s ≡ 6 → s ≡ stop.TooLong
is_too_long stop.TooLong e = refl
is_too_long stop.Usage e = absurd (omega arith)
is_too_long stop.BadTable e = absurd (omega arith)
is_too_long stop.Shelf e = absurd (omega arith)
is_too_long stop.Memory e = absurd (omega arith)

never_five : (s : Stop) → status_for s ≡ 5 → ⊥
never_five stop.Usage e = omega arith
never_five stop.BadTable e = omega arith
never_five stop.Shelf e = omega arith
never_five stop.TooLong e = omega arith
never_five stop.Memory e = omega arith

stop_status : (s t : Stop) → GivesStop t (Err s) → (status_for s ≡ status_for t)
    ⊎ (status_for s ≡ 7)
stop_status s t (inl e) = let same : s ≡ t = cc in inl (ap status_for same)
stop_status s t (inr e) = let same : s ≡ stop.Memory = cc in inr (ap status_for same)

memory_status : (line : Line) (s : Stop) → GivesLine line (Err s) → status_for s ≡ 7
memory_status line s h = ap status_for h

-- ---- lines

-- a sink that has room for a text accepts it whole
no_room : (text : List ℕ) (out out_now : SinkState) → IsCutShort text out out_now
    → HasRoom out.room (length text) → ⊥
no_room text out out_now cut has = omega (arith, cut.short, cut.full has.0 has.1, has.2)

module _ {Command S : Type 0} (program : Program Command) (words : List (List ℕ)) (state : S → ShelfState) (shelf shelf_now : S)
    (settled : AsksForNothing program words ⊎ ((command : Command) × program.AsksFor words command))
    (unread : AsksForNothing program words → shelf_now ≡ shelf) where
  -- nothing failed where nothing was read
  unread_once : {HasFailed : Type 0} → AsksForNothing program words → FailsOnce HasFailed (state shelf).faults (state shelf_now).faults
  unread_once none = none_failed (ap (λ s. (state s).faults) (unread none))

  -- if there is no report
  module _ (s : Stop)
      (unasked : AsksForNothing program words → ◌≡◌ {A = Result Report Stop} (Err s) (Err stop.Usage))
      (asked : (command : Command) → program.AsksFor words command → IsAnswering program (state shelf) (state shelf_now) command (Err s)) where
    stopped_usage : s ≡ stop.Usage → AsksForNothing program words
    stopped_usage e = λ command some. absurd (subst (IsStopped program (state shelf) (state shelf_now) command) e (asked command some).stopped)

    is_usage_status : AsksForNothing program words → status_for s ≡ 2
    is_usage_status none = let e = unasked none in let same : s ≡ stop.Usage = cc in ap status_for same

    -- a stop for another reason than usage is one of a command
    stopped_command : (t : Stop) → t ≢ stop.Usage → s ≡ t → (command : Command) × program.AsksFor words command
        × IsStopped program (state shelf) (state shelf_now) command t
    stopped_command t other is = elim settled [
      | inl none ↦ absurd (let e = unasked none in let same : s ≡ stop.Usage = cc in other (sym is
          ∙ same))
      | inr some ↦ (some.0, some.1, subst (IsStopped program (state shelf) (state shelf_now) some.0) is (asked some.0 some.1).stopped)
    ]

    reports_shelf : ◌≡◌ {A = Result Report Stop} (Err s) (Err stop.Shelf) → status_for s ≡ 4
    reports_shelf e = let same : s ≡ stop.Shelf = cc in ap status_for same

    shelf_once : FailsOnce (status_for s ≡ 4) (state shelf).faults (state shelf_now).faults
    shelf_once = elim settled [
      | inl none ↦ unread_once none
      | inr some ↦ failed_as reports_shelf (asked some.0 some.1).once
    ]

    IsRun-stopped : (out : SinkState) → IsRun program words state shelf shelf_now out out (status_for s)
    IsRun-stopped out = record {
      bounded = status_bounded s;
      reported = λ e. absurd (omega (arith, status_least s));
      usage = (λ e. stopped_usage (is_usage s e), is_usage_status);
      unread = unread;
      bad_table = λ e. stopped_command stop.BadTable (λ u. absurd cc) (is_bad_table s e);
      bad_table_always = λ command some q t bad. stop_status s stop.BadTable ((asked command some).bad_text t bad q);
      shelf_failed = λ e. (stopped_command stop.Shelf (λ u. absurd cc) (is_shelf s e)).2.0;
      shelf_quiet = λ command some q there e.
          (subst (IsStopped program (state shelf) (state shelf_now) command) (is_shelf s e) (asked command some).stopped).1 q there;
      missing = λ command ahead behind name some are m. missing_status ahead ((asked command some).missing ahead behind name are m);
      sink_failed = λ e. absurd (never_five s e);
      too_long = λ e. stopped_command stop.TooLong (λ u. absurd cc) (is_too_long s e);
      too_long_always = λ command ahead behind name some are long. long_status ahead ((asked command some).too_long ahead behind name are long);
      at_most = λ command some. (asked command some).at_most;
      shelf_once = shelf_once;
      sink_once = none_failed refl;
      nothing_written = λ two five. λ v e. e;
      capacity = λ capacity has. has;
      answered = λ command line some q t a. inl (inr (memory_status line s ((asked command some).answered line t a q)));
    } where
      long_status : (ahead : List (List ℕ)) → GivesStop stop.TooLong (Err s)
          ⊎ ((◌≡◌ {A = Result Report Stop} (Err s) (Err stop.Shelf)) × ((state shelf).is_quiet → HasFiles (state shelf).files ahead → ⊥))
          → ((status_for s ≡ 6) ⊎ (status_for s ≡ 7)) ⊎ ((status_for s ≡ 4) × ((state shelf).is_quiet → HasFiles (state shelf).files ahead → ⊥))
      long_status ahead (inl h) = inl (stop_status s stop.TooLong h)
      long_status ahead (inr h) = inr (reports_shelf h.0, h.1)

      missing_status : (ahead : List (List ℕ)) → GivesStop stop.Shelf (Err s)
          ⊎ ((◌≡◌ {A = Result Report Stop} (Err s) (Err stop.TooLong)) × HasLongFile (state shelf).files ahead)
          → ((status_for s ≡ 4) ⊎ (status_for s ≡ 7)) ⊎ ((status_for s ≡ 6) × HasLongFile (state shelf).files ahead)
      missing_status ahead (inl h) = inl (stop_status s stop.Shelf h)
      missing_status ahead (inr h) = let e = h.0 in let same : s ≡ stop.TooLong = cc in inr (ap status_for same, h.1)

  -- if there is a report, and the sink accepted its line, or a prefix of it
  module _ (report : Report)
      (unasked : AsksForNothing program words → ◌≡◌ {A = Result Report Stop} (Ok report) (Err stop.Usage))
      (asked : (command : Command) → program.AsksFor words command
      → IsAnswering program (state shelf) (state shelf_now) command (Ok report))
      (low_status : report.status ≤ 1) where
    no_stop : (t : Stop) → GivesStop t (Ok report) → ⊥
    no_stop t (inl e) = absurd cc
    no_stop t (inr e) = absurd cc

    no_usage : AsksForNothing program words → ⊥
    no_usage none = no_stop stop.Usage (inl (unasked none))

    no_long : (ahead : List (List ℕ)) → GivesStop stop.TooLong (Ok report)
        ⊎ ((◌≡◌ {A = Result Report Stop} (Ok report) (Err stop.Shelf)) × ((state shelf).is_quiet → HasFiles (state shelf).files ahead → ⊥)) → ⊥
    no_long ahead (inl h) = no_stop stop.TooLong h
    no_long ahead (inr h) = no_stop stop.Shelf (inl h.0)

    no_missing : (ahead : List (List ℕ)) → GivesStop stop.Shelf (Ok report)
        ⊎ ((◌≡◌ {A = Result Report Stop} (Ok report) (Err stop.TooLong)) × HasLongFile (state shelf).files ahead) → ⊥
    no_missing ahead (inl h) = no_stop stop.Shelf h
    no_missing ahead (inr h) = no_stop stop.TooLong (inl h.0)

    -- no call of the shelf failed
    none_once : {HasFailed : Type 0} → FailsOnce HasFailed (state shelf).faults (state shelf_now).faults
    none_once = elim settled [
      | inl none ↦ absurd (no_usage none)
      | inr some ↦ none_failed (stands (asked some.0 some.1).once (λ failed. no_stop stop.Shelf (inl failed)))
    ]

    -- its line is the answer
    is_answer : IsRunAnswer program words (state shelf) (state shelf_now) (line_held report)
    is_answer = elim settled [
      | inl none ↦ absurd (no_usage none)
      | inr some ↦ (some.0, some.1, (asked some.0 some.1).reported)
    ]

    -- each line that is the answer is its line
    given : (command : Command) (line : Line) → program.AsksFor words command → (state shelf).is_quiet → IsSome (state shelf).files
        → IsAnswered program (state shelf).files command line → line_held report ≡ line
    given command line some q t a = (asked command some).answered line t a q

    module _ (out out_now : SinkState) (keeps : KeepsCapacity out out_now) where
      IsRun-written : (status : ℕ) → FailsOnce (status ≡ 5) out.faults out_now.faults → status ≡ report.status
          → Appends out.held (string_bytes report.line) out_now.held
          → IsRun program words state shelf shelf_now out out_now status
      IsRun-written status sink_once is all = record {
        bounded = omega (arith, low_status);
        reported = λ e. record { line = line_held report; is_answer = is_answer; is_status = sym is; has_line = all };
        usage = (λ e. absurd (omega (arith, low_status)), λ none. absurd (no_usage none));
        unread = unread;
        bad_table = λ e. absurd (omega (arith, low_status));
        bad_table_always = λ command some q t bad. absurd (no_stop stop.BadTable ((asked command some).bad_text t bad q));
        shelf_failed = λ e. absurd (omega (arith, low_status));
        shelf_quiet = λ command some q there e. omega (arith, low_status);
        missing = λ command ahead behind name some are m. absurd (no_missing ahead ((asked command some).missing ahead behind name are m));
        sink_failed = λ e. absurd (omega (arith, low_status));
        too_long = λ e. absurd (omega (arith, low_status));
        too_long_always = λ command ahead behind name some are long. absurd (no_long ahead ((asked command some).too_long ahead behind name are long));
        at_most = λ command some. (asked command some).at_most;
        shelf_once = none_once;
        sink_once = sink_once;
        nothing_written = λ two five. absurd (omega (arith, low_status));
        capacity = keeps;
        answered = λ command line some q t a.
            let same = given command line some q t a in
            inl (inl (is ∙ ap (λ (l : Line). l.status) same, omega (arith, low_status), subst (λ (l : Line). Appends out.held l.text out_now.held) same all));
      }

      IsRun-cut : (status : ℕ) → FailsOnce (status ≡ 5) out.faults out_now.faults → status ≡ 5 → HasRisen out.faults out_now.faults
          → IsCutShort (string_bytes report.line) out out_now
          → IsRun program words state shelf shelf_now out out_now status
      IsRun-cut status sink_once is rose cut = record {
        bounded = omega arith;
        reported = λ e. absurd (omega arith);
        usage = (λ e. absurd (omega arith), λ none. absurd (no_usage none));
        unread = unread;
        bad_table = λ e. absurd (omega arith);
        bad_table_always = λ command some q t bad. absurd (no_stop stop.BadTable ((asked command some).bad_text t bad q));
        shelf_failed = λ e. absurd (omega arith);
        shelf_quiet = λ command some q there e. omega arith;
        missing = λ command ahead behind name some are m. absurd (no_missing ahead ((asked command some).missing ahead behind name are m));
        sink_failed = λ e. record { line = line_held report; is_answer = is_answer; cut_short = cut; has_risen = rose };
        too_long = λ e. absurd (omega arith);
        too_long_always = λ command ahead behind name some are long. absurd (no_long ahead ((asked command some).too_long ahead behind name are long));
        at_most = λ command some. (asked command some).at_most;
        shelf_once = none_once;
        sink_once = sink_once;
        nothing_written = λ two five. absurd (five is);
        capacity = keeps;
        answered = λ command line some q t a.
            inr (is, rose, subst (λ (l : Line). LacksRoom out l) (given command line some q t a) (no_room (string_bytes report.line) out out_now cut));
      }

      IsRun-delivered : (status : ℕ) → FailsOnce (status ≡ 5) out.faults out_now.faults → Delivers report out out_now status
          → IsRun program words state shelf shelf_now out out_now status
      IsRun-delivered status sink_once (inl h) = IsRun-written status sink_once h.0 h.1
      IsRun-delivered status sink_once (inr h) = IsRun-cut status sink_once h.0 h.1 h.2

-- ---- what was parsed

module _ {Held Command E : Type 0} (program : Program Command) (words : List (List ℕ)) (asked : Held → Command) (parsed : Result (Option Held) E) where
  only_one : (a b : Command) → Some a ≡ Some b → a ≡ b
  only_one a b is = cc

  pub found_held : (found : Option Held) (held : Held) → parsed ≡ Ok found → found ≡ Some held → IsParsed program words (parsed_held asked parsed)
      → program.AsksFor words (asked held) × ((other : Command) → program.AsksFor words other → asked held ≡ other)
  found_held found held is found_is h =
      let h = subst (λ (p : Result (Option Held) E). IsParsed program words (parsed_held asked p)) (is ∙ ap Ok found_is) h in
      (h.asked, λ other some. only_one (asked held) other (h.only other some))

  pub none_held : (found : Option Held) → parsed ≡ Ok found → found ≡ None → IsParsed program words (parsed_held asked parsed) → AsksForNothing program words
  none_held found is found_is h = (subst (λ (p : Result (Option Held) E). IsParsed program words (parsed_held asked p)) (is ∙ ap Ok found_is) h).asked

  pub failed_held : (e : E) → parsed ≡ Err e → IsParsed program words (parsed_held asked parsed) → (command : Command) × program.AsksFor words command
  failed_held e is h = (subst (λ (p : Result (Option Held) E). IsParsed program words (parsed_held asked p)) is h).memory refl

-- ---- a run of a command, which ends by its result

module _ {Command S : Type 0} (program : Program Command) (words : List (List ℕ)) (state : S → ShelfState) (shelf shelf_now : S)
    (command : Command) (some : program.AsksFor words command) (only : (other : Command) → program.AsksFor words other → command ≡ other) where
  pub IsRun-ended : (result : Result Report Stop) → IsAnswering program (state shelf) (state shelf_now) command result
      → (out out_now : SinkState) → KeepsCapacity out out_now
      → (status : ℕ) → FailsOnce (status ≡ 5) out.faults out_now.faults → Ends result out out_now status
      → IsRun program words state shelf shelf_now out out_now status
  IsRun-ended (Ok report) answering out out_now keeps status sink_once ends =
      IsRun-delivered program words state shelf shelf_now (inr (command, some)) (λ none. absurd (none command some)) report (λ none. absurd (none command some))
      (λ other asked. subst (λ (c : Command). IsAnswering program (state shelf) (state shelf_now) c (Ok report)) (only other asked) answering)
      answering.low out out_now keeps status sink_once ends
  IsRun-ended (Err s) answering out out_now keeps status sink_once ends =
      subst (λ (n : ℕ). IsRun program words state shelf shelf_now out out_now n) (sym ends.0)
      (subst (λ (o : SinkState). IsRun program words state shelf shelf_now out o (status_for s)) (sym ends.1)
      (IsRun-stopped program words state shelf shelf_now (inr (command, some)) (λ none. absurd (none command some)) s (λ none. absurd (none command some))
      (λ other asked. subst (λ (c : Command). IsAnswering program (state shelf) (state shelf_now) c (Err s)) (only other asked) answering) out))

-- ---- a run without a command

module _ {Command S : Type 0} (program : Program Command) (words : List (List ℕ)) (state : S → ShelfState) (shelf : S) (out : SinkState) where
  -- if the words are no command
  pub IsRun-unasked : AsksForNothing program words → IsRun program words state shelf shelf out out 2
  IsRun-unasked none =
      IsRun-stopped program words state shelf shelf (inl none) (λ _. refl) stop.Usage (λ _. refl) (λ command some. absurd (none command some)) out

  -- if memory ran out for the words of a command
  pub IsRun-memory : (command : Command) × program.AsksFor words command → IsRun program words state shelf shelf out out 7
  IsRun-memory some =
      IsRun-stopped program words state shelf shelf (inr some) (λ _. refl) stop.Memory (λ none. absurd (none some.0 some.1))
      (λ command asked. IsAnswering-memory program (state shelf) command) out
