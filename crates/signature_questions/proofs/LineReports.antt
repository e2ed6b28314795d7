-- What is reported of a line, a refusal, or memory that ran out; and of a command.
use Rattle.std.proofs.Common.{◌≡◌, ◌≤◌, ℕ, List, [], ◌∷◌, length, map, Result, Ok, Err, IfOk, MatchResult, inl, inr, refl, sym, ap, subst, arith}
use Rattle.program_frame.specs.Answering.{IsReport, line_held}
use Rattle.program_frame.specs.Commands.{Line}
use Rattle.program_frame.specs.Reports.{Reports, as_lines}
use Rattle.program_frame.specs.Statuses as statuses
use Rattle.program_frame.specs.declared.report.Report.{Report}
use Rattle.program_frame.specs.declared.stop.Stop.{Stop}
use Rattle.program_frame.specs.declared.stop.Stop.TheVariants as stops
use Rattle.program_frame.proofs.Reporting.{IsReport-lines}
use Rattle.x509_core.specs.OwnedCertificates.{IsFirstUnread}
use Rattle.x509_core.specs.declared.error.CertError.{CertError}
use Rattle.x509_core.specs.declared.error.CertError.TheVariants as cert
use Rattle.signature_questions.specs.Commands.{IsChainLine, IsSignatureLine, program}
use Rattle.signature_questions.specs.Lines.{refused_chain_line}
use Rattle.signature_questions.specs.Words.{OfChain, OfSignature}
use Rattle.signature_questions.proofs.OneLine.{chain_line_once}

pub memory_reports : (Is : Line → Type 0) (s : Stop) → s ≡ stops.Memory → Reports as_lines Is (Err s)
memory_reports Is s is = record { reported = tt; stopped = is; only = λ line h reportable. is }

pub line_reports : (Is : Line → Type 0) → ((a b : Line) → Is a → Is b → a ≡ b) → (report : Report) → Is (line_held report) → Reports as_lines Is (Ok report)
line_reports Is once report is = record {
  reported = (line_held report, is, record { reportable = λ none. none; status = refl; line = refl });
  stopped = tt;
  only = λ line h reportable.
      let same = once (line_held report) line is h in
      record { reportable = reportable; status = ap (λ (l : Line). l.status) same; line = ap (λ (l : Line). l.text) same };
}

no_report : (report : Report) (s : Stop) → ◌≡◌ {A = Result Report Stop} (Ok report) (Err s) → ⊥
no_report report s is = absurd cc

-- the first octets that aren't a certificate
pub unread_reports : (octets : List (List ℕ)) (e : CertError) (r : Result Report Stop) → IsFirstUnread octets e
    → MatchResult r (λ report. line_held report ≡ record { status = statuses.refused; text = refused_chain_line e }) (λ stop. stop ≡ stops.Memory)
    → (e ≡ cert.Memory → r ≡ Err stops.Memory) → Reports as_lines (IsChainLine octets) r
unread_reports octets e (Err s) unread is memory = memory_reports (IsChainLine octets) s is
unread_reports octets e (Ok report) unread is memory =
    line_reports (IsChainLine octets) (chain_line_once octets) report
    (inr (record {
      error = e;
      refuses = (unread, λ same. no_report report stops.Memory (memory same));
      status = ap (λ (l : Line). l.status) is;
      text = ap (λ (l : Line). l.text) is;
    }))

-- ---- the report on the files of a command

signature_low : (octets : List ℕ) (line : Line) → IsSignatureLine octets line → line.status ≤ 1
signature_low octets line (inl (f, has, asked)) = omega (arith, asked.status)
signature_low octets line (inr refused) = omega (arith, refused.status)

chain_low : (octets : List (List ℕ)) (line : Line) → IsChainLine octets line → line.status ≤ 1
chain_low octets line (inl (checked, parents, are, asked)) = omega (arith, asked.status)
chain_low octets line (inr refused) = omega (arith, refused.status)

reported_low : (Is : Line → Type 0) → ((line : Line) → Is line → line.status ≤ 1) → (result : Result Report Stop) → Reports as_lines Is result
    → IfOk result (λ report. report.status ≤ 1)
reported_low Is low (Ok report) reports = omega (arith, reports.reported.2.status, low reports.reported.0 reports.reported.1)
reported_low Is low (Err s) reports = tt

nothing_promised : (result : Result Report Stop) → IfOk result (λ report. Unit {0})
nothing_promised (Ok report) = tt
nothing_promised (Err s) = tt

none_behind : {V : Type 0} (items : V → List ℕ) (others : List V) → length (map items others) ≡ 0 → map items others ≡ []
none_behind items [] none = refl
none_behind items (v ∷ others) none = absurd (omega (arith, none))

module _ (result : Result Report Stop) where
  pub signature_report : {V : Type 0} (items : V → List ℕ) (file octets : List ℕ) (others : List V) → length (octets ∷ map items others) ≡ 1
      → Reports as_lines (IsSignatureLine octets) result → IsReport program (OfSignature file) (octets ∷ map items others) result
  signature_report items file octets others one reports =
      subst (λ (behind : List (List ℕ)). IsReport program (OfSignature file) (octets ∷ behind) result) (sym (none_behind items others (omega (arith, one))))
      (IsReport-lines program (OfSignature file) (octets ∷ []) (λ none. none) result (nothing_promised result)
      (reported_low (IsSignatureLine octets) (signature_low octets) result reports) reports)

  pub chain_report : (certificates contents : List (List ℕ)) → Reports as_lines (IsChainLine contents) result
      → IsReport program (OfChain certificates) contents result
  chain_report certificates contents reports =
      IsReport-lines program (OfChain certificates) contents (λ none. none) result (nothing_promised result)
      (reported_low (IsChainLine contents) (chain_low contents) result reports) reports
