-- There is one answer for the lines of a register, and a report of it is the only one.
use Rattle.std.proofs.Common.{◌≡◌, ℕ, ◌≤◌, List, [], ◌∷◌, length, Result, Ok, Err, IfOk, inl, inr, refl, sym, ap, subst, ◌∙◌, arith}
use Rattle.std.proofs.Math.Logic.{∥∥₁_map}
use Rattle.std.specs.Prelude.{string_bytes}
use Rattle.std.proofs.lemmas.List.{length-map}
use Rattle.std.proofs.lemmas.List.Sums.{sum_by-cons}
use Rattle.asn1_types.specs.declared.generalized_time.GeneralizedTime.{GeneralizedTime}
use Rattle.sig_core.specs.DemoScheme.{demo_verdict}
use Rattle.x509_core.specs.OwnedCertificate.{KeptCertificate}
use Rattle.program_frame.specs.declared.report.Report.{Report}
use Rattle.program_frame.specs.declared.stop.Stop.{Stop}
use Rattle.program_frame.specs.declared.stop.Stop.TheVariants as stop
use Rattle.program_frame.specs.Answering.{GivesLine, GivesStop, IsReport, StopsForText}
use Rattle.program_frame.specs.Commands.{Line as ReportLine}
use Rattle.program_frame.specs.Limits.{AreWholeFiles, IsWholeFile}
use Rattle.program_frame.specs.ReadFiles.{HandsOut, total_length}
use Rattle.program_frame.specs.Reports.{IsReportOf, Reports}
use Rattle.program_frame.specs.Run.{IsRun}
use Rattle.program_frame.specs.Shelf.{ShelfState}
use Rattle.program_frame.specs.Sink.{SinkState}
use Rattle.program_frame.proofs.Reporting.{gives_line}
use Rattle.ca_register.specs.Answer.{IsAnswerLine, IsAnswerTo, reporting, status_of, text_in}
use Rattle.ca_register.specs.Authorities.{IsRegister}
use Rattle.ca_register.specs.Commands.{program}
use Rattle.ca_register.specs.Counting.{IsAcceptedAt, IsUsableAt}
use Rattle.ca_register.specs.Filling.{IsFilled}
use Rattle.ca_register.specs.LineEntries.{IsFirstRefused, entries_of, entry_of}
use Rattle.ca_register.specs.Lines.{HasBadLine, IsRegisterText, Line}
use Rattle.ca_register.specs.Reported.{AreIssued, IsCountLine, IsReportedCount}
use Rattle.ca_register.specs.Words.{Command}
use Rattle.ca_register.specs.declared.entry.Entry.{Entry}
use Rattle.ca_register.specs.declared.error.IssueError.{IssueError}
use Rattle.ca_register.specs.declared.error.IssueError.TheVariants as errors
use Rattle.ca_register.specs.declared.report.Answer.{Answer}
use Rattle.ca_register.specs.declared.report.Answer.TheVariants.{Counted, NoIssuer, NotCa, TooDeep}
use Rattle.der_core.specs.Counting.{IsCount}
use Rattle.der_core.proofs.Counting.{count_once}
use Rattle.ca_register.proofs.FirstRefusals.{none_refused, one_refusal}

-- ---- one answer

no_issuer_not_ca : (issuer len : ℕ) → errors.NoIssuer issuer len ≡ errors.NotCa → ⊥
no_issuer_not_ca issuer len e = absurd cc

no_issuer_too_deep : (issuer len ancestor : ℕ) → errors.NoIssuer issuer len ≡ errors.TooDeep ancestor → ⊥
no_issuer_too_deep issuer len ancestor e = absurd cc

not_ca_too_deep : (ancestor : ℕ) → errors.NotCa ≡ errors.TooDeep ancestor → ⊥
not_ca_too_deep ancestor e = absurd cc

module _ (date : GeneralizedTime) (lines : List Line) where
  refused_once : (a b : IssueError) (x y : IssueError) → IsFirstRefused lines a → IsFirstRefused lines b → a ≡ x → b ≡ y → x ≡ y
  refused_once a b x y first second is same = sym is ∙ one_refusal lines a b first second ∙ same

  pub one_answer : (a b : Answer) → IsAnswerTo date lines a → IsAnswerTo date lines b → a ≡ b
  one_answer (Counted issued accepted) (Counted all some) x y =
      let same_issued : issued ≡ all = x.all ∙ sym y.all in
      let same_accepted : accepted ≡ some = count_once (IsUsableAt (entries_of lines) date) (length lines) accepted some x.usable y.usable in
      λ i. Counted (same_issued i) (same_accepted i)
  one_answer (Counted issued accepted) NoIssuer x y = absurd (none_refused lines y.0 x.issuable y.1)
  one_answer (Counted issued accepted) NotCa x y = absurd (none_refused lines y.0 x.issuable y.1)
  one_answer (Counted issued accepted) TooDeep x y = absurd (none_refused lines y.0 x.issuable y.1)
  one_answer NoIssuer (Counted issued accepted) x y = absurd (none_refused lines x.0 y.issuable x.1)
  one_answer NoIssuer NoIssuer x y = refl
  one_answer NoIssuer NotCa x y = absurd (no_issuer_not_ca _ _ (refused_once x.0 y.0 _ _ x.1 y.1 x.2.2 y.2))
  one_answer NoIssuer TooDeep x y = absurd (no_issuer_too_deep _ _ _ (refused_once x.0 y.0 _ _ x.1 y.1 x.2.2 y.2.1))
  one_answer NotCa (Counted issued accepted) x y = absurd (none_refused lines x.0 y.issuable x.1)
  one_answer NotCa NoIssuer x y = absurd (no_issuer_not_ca _ _ (refused_once y.0 x.0 _ _ y.1 x.1 y.2.2 x.2))
  one_answer NotCa NotCa x y = refl
  one_answer NotCa TooDeep x y = absurd (not_ca_too_deep _ (refused_once x.0 y.0 _ _ x.1 y.1 x.2 y.2.1))
  one_answer TooDeep (Counted issued accepted) x y = absurd (none_refused lines x.0 y.issuable x.1)
  one_answer TooDeep NoIssuer x y = absurd (no_issuer_too_deep _ _ _ (refused_once y.0 x.0 _ _ y.1 x.1 y.2.2 x.2.1))
  one_answer TooDeep NotCa x y = absurd (not_ca_too_deep _ (refused_once y.0 x.0 _ _ y.1 x.1 y.2 x.2.1))
  one_answer TooDeep TooDeep x y = refl

  -- ---- reports

  pub answer_reports : (answer : Answer) (report : Report) → IsAnswerTo date lines answer → IsReportOf reporting answer report
      → Reports reporting (IsAnswerTo date lines) (Ok report)
  answer_reports answer report is h = record {
    reported = (answer, is, h);
    stopped = tt;
    only = λ other also reportable. subst (λ (a : Answer). IsReportOf reporting a report) (one_answer answer other is also) h;
  }

-- ---- what was issued

counted_once : (a b c d : ℕ) → ◌≡◌ {A = Result Answer Stop} (Ok (Counted a b)) (Ok (Counted c d)) → b ≡ d
counted_once a b c d e = cc

-- the certificates of a filled register
pub issued_count : (date : GeneralizedTime) (lines : List Line) (entries : List Entry) (certificates : List KeptCertificate)
    → IsFilled lines entries certificates → ∥ IsRegister demo_verdict entries certificates ∥₁
    → (len number issued accepted : ℕ)
    → (IsRegister demo_verdict entries certificates → IsCount (IsAcceptedAt demo_verdict entries certificates date) (length entries) number)
    → ◌≡◌ {A = Result Answer Stop} (Ok (Counted len number)) (Ok (Counted issued accepted)) → ∥ AreIssued date lines accepted ∥₁
issued_count date lines entries certificates filled kept len number issued accepted count same = ∥∥₁_map kept (λ is.
    let counted =
    subst (IsCount (IsAcceptedAt demo_verdict entries certificates date) (length entries)) (counted_once len number issued accepted same) (count is) in
    let many : length entries ≡ length lines = ap (λ (es : List Entry). length es) filled.recorded ∙ length-map lines entry_of in
    record {
      certificates = certificates;
      register = subst (λ (es : List Entry). IsRegister demo_verdict es certificates) filled.recorded is;
      each = filled.each;
      count = subst (λ (es : List Entry). IsCount (IsAcceptedAt demo_verdict es certificates date) (length lines) accepted) filled.recorded
          (subst (λ (n : ℕ). IsCount (IsAcceptedAt demo_verdict entries certificates date) n accepted) many counted);
    })

-- ---- the report on a text

low_status : (answer : Answer) → status_of answer ≤ 1
low_status (Counted issued accepted) = omega arith
low_status NoIssuer = omega arith
low_status NotCa = omega arith
low_status TooDeep = omega arith

stops_for_text : (HasBad : Type 0) (s : Stop) → StopsForText HasBad s → GivesStop stop.BadTable (Err s)
stops_for_text HasBad stop.BadTable bad = inl refl
stops_for_text HasBad stop.Memory bad = inr refl
stops_for_text HasBad stop.Usage bad = absurd bad
stops_for_text HasBad stop.Shelf bad = absurd bad
stops_for_text HasBad stop.TooLong bad = absurd bad

module _ (command : Command) (text : List ℕ) (others : List (List ℕ)) where
  -- if the lines aren't read
  pub unread_report : (s : Stop) → StopsForText (HasBadLine text) s → ((lines : List Line) → IsRegisterText text lines → s ≡ stop.Memory)
      → IsReport program command (text ∷ others) (Err s)
  unread_report s stopped only = record {
    reported = tt;
    promised = tt;
    low = tt;
    stopped = stopped;
    only = λ line is. only is.lines is.is_text;
    bad = λ bad. stops_for_text (HasBadLine text) s stopped;
  }

  -- if they are read
  module _ (lines : List Line) (is_text : IsRegisterText text lines) (only : (other : List Line) → IsRegisterText text other → lines ≡ other) where
    each_line : (result : Result Report Stop) → Reports reporting (IsAnswerTo command.date lines) result
        → (line : ReportLine) → IsAnswerLine command.date text line → GivesLine line result
    each_line result reports line is =
        let answers = subst (λ (ls : List Line). IsAnswerTo command.date ls is.answer) (sym (only is.lines is.is_text)) is.is_answer in
        gives_line reporting is.answer line result is.line_is (reports.only is.answer answers (λ none. none))

    pub text_report : (result : Result Report Stop) → Reports reporting (IsAnswerTo command.date lines) result
        → IfOk result (λ report. report.status ≡ 0 → IsCountLine command.date lines (string_bytes report.line))
        → IsReport program command (text ∷ others) result
    text_report (Ok report) reports counted =
        let is = reports.reported in
        record {
          reported = record {
            lines = lines;
            is_text = is_text;
            answer = is.0;
            is_answer = is.1;
            line_is = gives_line reporting is.0 (reporting.line_of is.0) (Ok report) refl is.2;
          };
          promised = λ zero. record { lines = lines; is_text = is_text; counted = counted zero };
          low = omega (arith, is.2.status, low_status is.0);
          stopped = tt;
          only = each_line (Ok report) reports;
          bad = λ bad. absurd (bad lines is_text);
        }
    text_report (Err s) reports counted = record {
      reported = tt;
      promised = tt;
      low = tt;
      stopped = subst (StopsForText (HasBadLine text)) (sym reports.stopped) tt;
      only = each_line (Err s) reports;
      bad = λ bad. absurd (bad lines is_text);
    }

-- ---- an acceptance

-- the only file
only_file : (shelf shelf_now : ShelfState) (name : List ℕ) (contents : List (List ℕ)) → AreWholeFiles shelf.files (name ∷ []) contents
    → HandsOut (total_length contents) shelf shelf_now → IsWholeFile shelf.files name (text_in contents) × HandsOut (length (text_in contents)) shelf shelf_now
only_file shelf shelf_now name [] whole given = absurd whole
only_file shelf shelf_now name (text ∷ []) whole given =
    let total = sum_by-cons (λ (o : List ℕ). length o) text [] in
    (whole.0, subst (λ (n : ℕ). HandsOut n shelf shelf_now) (omega (arith, total)) given)
only_file shelf shelf_now name (text ∷ more ∷ contents) whole given = absurd whole.1

module _ {S : Type 0} (words : List (List ℕ)) (state : S → ShelfState) (shelf shelf_now : S) (out out_now : SinkState) where
  pub reported_count : (status : ℕ) → status ≡ 0 → IsRun program words state shelf shelf_now out out_now status
      → IsReportedCount words (state shelf) (state shelf_now) out.held out_now.held
  reported_count status zero run =
      let delivered = run.reported (omega (arith, zero)) in
      let read = delivered.is_answer.2 in
      let answered = read.is_answered in
      let file = only_file (state shelf) (state shelf_now) delivered.is_answer.0.file answered.contents answered.are_files read.given in
      record {
        line = delivered.line.text;
        count = record {
          command = delivered.is_answer.0;
          asked = delivered.is_answer.1;
          text = text_in answered.contents;
          file = file.0;
          handed_out = file.1;
          count = read.promised (delivered.is_status ∙ zero);
        };
        written = delivered.has_line;
      }
