-- What is accepted is vouched for.
use Rattle.std.proofs.Common.{◌≡◌, List, [], ◌∷◌, ℕ, ◌+◌, length, Option, Some, None, Result, Ok, Err, inl, inr, refl, sym, ap, subst, ◌∙◌, arith}
use Rattle.std.specs.Borrow.{Bor}
use Rattle.std.proofs.lemmas.List.Sums.{sum_by-cons}
use Rattle.asn1_types.specs.declared.generalized_time.GeneralizedTime.{GeneralizedTime}
use Rattle.cms_types.specs.SignedDataElements.{SignedDataElements}
use Rattle.sig_core.specs.declared.verdict_row.VerdictRow.{VerdictRow}
use Rattle.sig_core.specs.VerdictTable.{IsTable, verdict_of}
use Rattle.key_core.specs.Verifying.{Judge}
use Rattle.authenticode_core.specs.Basic.{HasSignedData}
use Rattle.authenticode_core.specs.Trusted.{IsAnswer}
use Rattle.authenticode_core.specs.declared.accepted.Accepted.{Accepted}
use Rattle.authenticode_core.specs.declared.ctl.CertificateTrustList.{CertificateTrustList}
use Rattle.authenticode_core.specs.declared.error.CheckError.{CheckError}
use Rattle.authenticode_core.specs.declared.policy.Policy.{Policy}
use Rattle.x509_core.specs.declared.error.CertError.{CertError}
use Rattle.program_frame.specs.Options.{CheckOptions}
use Rattle.picky_check.specs.Headline.{IsGivenList, IsVouchedFor, IsVouchedSignature}
use Rattle.picky_check.specs.Commands.{IsAnswerTo, program, table_in}
use Rattle.program_frame.specs.ReadFiles.{HandsOut, total_length}
use Rattle.picky_check.specs.ChainHeadline.{IsVouchedChain}
use Rattle.program_frame.specs.Limits.{AreWholeFiles}
use Rattle.program_frame.specs.ListOption.{AskedList, list_files}
use Rattle.picky_check.specs.Policies.{check_policy}
use Rattle.picky_check.specs.Report.{Answer, OfSignature, OfChain, accepted_line, parents_line, report_line, status_of}
use Rattle.program_frame.specs.Commands.{Line}
use Rattle.program_frame.specs.Run.{IsRunAnswer}
use Rattle.program_frame.specs.Shelf.{Files, ShelfState}
use Rattle.picky_check.specs.SignatureAnswer.{IsListAnswer}
use Rattle.program_frame.specs.Sink.{Appends}
use Rattle.picky_check.specs.Vouched.{IsVouched}
use Rattle.picky_check.specs.Words.{Command, Basic, Check, Chain, AsksFor, files_of}
use Rattle.picky_check.proofs.VouchedChains.{vouched_chain}
use Rattle.picky_check.proofs.VouchedSignatures.{vouched_basic, vouched_check}

-- The trust list that was read, if there is one, and the acceptance under it.
record IsGiven (files : Option Files) (judge : Judge) (policy : Option (Bor CertificateTrustList) → Policy) (octets : List ℕ) (a : Accepted)
    (asked : Option AskedList) (lists : List (List ℕ)) : Type 0 where
  pub list : Option (Bor CertificateTrustList)
  pub given : IsGivenList files asked lists list
  pub answer : IsAnswer judge (policy list) octets (Ok a)

given_list : (files : Option Files) (judge : Judge) (policy : Option (Bor CertificateTrustList) → Policy) (octets : List ℕ) (a : Accepted)
    (asked : Option AskedList) (lists : List (List ℕ)) → AreWholeFiles files (list_files asked) lists
    → IsListAnswer judge policy octets lists (OfSignature (Ok a))
    → IsGiven files judge policy octets a asked lists
given_list files judge policy octets a None [] are h = record { list = None; given = (refl, refl); answer = h.is }
given_list files judge policy octets a None (list ∷ lists) are h = absurd are
given_list files judge policy octets a (Some asked) [] are h = absurd are
given_list files judge policy octets a (Some asked) (list ∷ more ∷ lists) are h = absurd are.1
given_list files judge policy octets a (Some asked) (list ∷ []) are (inl unread) = absurd unread
given_list files judge policy octets a (Some asked) (list ∷ []) are (inr read) = record {
  list = Some read.0;
  given = record { octets = list; is_file = are.0; are = refl; given = read.0; is_list = read.1; list_is = refl };
  answer = read.2.is;
}

module _ (one_signed_data : (octets : List ℕ) (f g : SignedDataElements) → HasSignedData octets f → HasSignedData octets g → f ≡ g)
    (words : List (List ℕ)) (shelf shelf_now : ShelfState) (held held_now : Option (List ℕ)) where
  first_and_others : (first : List ℕ) (others : List (List ℕ)) → HandsOut (total_length (first ∷ others)) shelf shelf_now
      → HandsOut (length first + total_length others) shelf shelf_now
  first_and_others first others given =
      subst (λ (n : ℕ). HandsOut n shelf shelf_now) (sum_by-cons (λ (o : List ℕ). length o) first others) given

  both : (first second : List ℕ) (lists : List (List ℕ)) → HandsOut (total_length (first ∷ second ∷ lists)) shelf shelf_now
      → HandsOut (length first + length second + total_length lists) shelf shelf_now
  both first second lists given =
      let one = sum_by-cons (λ (o : List ℕ). length o) second lists in
      subst (λ (n : ℕ). HandsOut n shelf shelf_now) (omega (arith, one)) (first_and_others first (second ∷ lists) given)

  of_basic : (signature table hash : List ℕ) (contents : List (List ℕ)) (rows : List VerdictRow) (a : Accepted)
      → AsksFor words (Basic signature table hash) → AreWholeFiles shelf.files (files_of (Basic signature table hash)) contents
      → IsTable (table_in (Basic signature table hash) contents) rows
      → IsAnswerTo (verdict_of rows) (Basic signature table hash) contents (OfSignature (Ok a))
      → HandsOut (total_length contents) shelf shelf_now → Appends held (accepted_line a) held_now → IsVouchedFor words shelf shelf_now held held_now
  of_basic signature table hash [] rows a asked are is_table is_answer given written = absurd are
  of_basic signature table hash (octets ∷ []) rows a asked are is_table is_answer given written = absurd are.1
  of_basic signature table hash (octets ∷ text ∷ more ∷ others) rows a asked are is_table is_answer given written = absurd are.1.1
  of_basic signature table hash (octets ∷ text ∷ []) rows a asked are is_table is_answer given written =
      vouched_basic words shelf shelf_now signature table hash octets text rows are.0 are.1.0 [] (both octets text [] given)
      is_table a one_signed_data held held_now written refl asked is_answer.is

  of_check : (signature table hash : List ℕ) (date : GeneralizedTime) (options : CheckOptions) (contents : List (List ℕ)) (rows : List VerdictRow)
      (a : Accepted)
      → AsksFor words (Check signature table hash date options) → AreWholeFiles shelf.files (files_of (Check signature table hash date options)) contents
      → IsTable (table_in (Check signature table hash date options) contents) rows
      → IsAnswerTo (verdict_of rows) (Check signature table hash date options) contents (OfSignature (Ok a))
      → HandsOut (total_length contents) shelf shelf_now → Appends held (accepted_line a) held_now → IsVouchedSignature words shelf shelf_now held held_now
  of_check signature table hash date options [] rows a asked are is_table is_answer given written = absurd are
  of_check signature table hash date options (octets ∷ []) rows a asked are is_table is_answer given written = absurd are.1
  of_check signature table hash date options (octets ∷ text ∷ lists) rows a asked are is_table is_answer given written =
      let list = given_list shelf.files (verdict_of rows) (check_policy hash date options) octets a options.list lists are.1.1 is_answer in
      vouched_check words shelf shelf_now signature table hash octets text rows are.0 are.1.0 lists (both octets text lists given)
      is_table a one_signed_data held held_now written
      date options asked list.list list.given list.answer

  of_chain : (table : List ℕ) (date : GeneralizedTime) (names contents : List (List ℕ)) (rows : List VerdictRow) (count : ℕ)
      → AsksFor words (Chain table date names) → AreWholeFiles shelf.files (files_of (Chain table date names)) contents
      → IsTable (table_in (Chain table date names) contents) rows
      → IsAnswerTo (verdict_of rows) (Chain table date names) contents (OfChain (Ok count))
      → HandsOut (total_length contents) shelf shelf_now → Appends held (parents_line count) held_now → IsVouchedChain words shelf shelf_now held held_now
  of_chain table date names [] rows count asked are is_table is_answer given written = absurd are
  of_chain table date names (text ∷ octets) rows count asked are is_table is_answer given written =
      vouched_chain words shelf shelf_now held held_now table date names asked text rows octets are.0 are.1 (first_and_others text octets given)
      is_table count is_answer written

  -- an answer of one command is none of another
  no_chain_for_basic : (signature table hash : List ℕ) (contents : List (List ℕ)) (rows : List VerdictRow) (given : Result ℕ CertError)
      → IsAnswerTo (verdict_of rows) (Basic signature table hash) contents (OfChain given) → ⊥
  no_chain_for_basic signature table hash [] rows given is_answer = is_answer
  no_chain_for_basic signature table hash (octets ∷ others) rows given is_answer = is_answer

  no_chain_for_check : (signature table hash : List ℕ) (date : GeneralizedTime) (options : CheckOptions) (contents : List (List ℕ)) (rows : List VerdictRow)
      (given : Result ℕ CertError) → IsAnswerTo (verdict_of rows) (Check signature table hash date options) contents (OfChain given) → ⊥
  no_chain_for_check signature table hash date options [] rows given is_answer = is_answer
  no_chain_for_check signature table hash date options (octets ∷ []) rows given is_answer = is_answer
  no_chain_for_check signature table hash date options (octets ∷ text ∷ []) rows given is_answer = is_answer
  no_chain_for_check signature table hash date options (octets ∷ text ∷ list ∷ others) rows given (inl unread) = unread
  no_chain_for_check signature table hash date options (octets ∷ text ∷ list ∷ others) rows given (inr read) = read.2

  no_signature_for_chain : (table : List ℕ) (date : GeneralizedTime) (names contents : List (List ℕ)) (rows : List VerdictRow)
      (given : Result Accepted CheckError)
      → IsAnswerTo (verdict_of rows) (Chain table date names) contents (OfSignature given) → ⊥
  no_signature_for_chain table date names [] rows given is_answer = is_answer
  no_signature_for_chain table date names (text ∷ octets) rows given is_answer = is_answer

  module _ (contents : List (List ℕ)) (rows : List VerdictRow) (given : HandsOut (total_length contents) shelf shelf_now) where
    vouched_for_command : (command : Command) (answer : Answer) → AsksFor words command → AreWholeFiles shelf.files (files_of command) contents
        → IsTable (table_in command contents) rows
        → IsAnswerTo (verdict_of rows) command contents answer → status_of answer ≡ 0 → Appends held (report_line answer) held_now
        → IsVouched words shelf shelf_now held held_now
    vouched_for_command (Basic signature table hash) (OfSignature (Ok a)) asked are is_table is_answer zero written =
        inl (of_basic signature table hash contents rows a asked are is_table is_answer given written)
    vouched_for_command (Basic signature table hash) (OfSignature (Err e)) asked are is_table is_answer zero written = absurd (omega arith)
    vouched_for_command (Basic signature table hash) (OfChain count) asked are is_table is_answer zero written =
        absurd (no_chain_for_basic signature table hash contents rows count is_answer)
    vouched_for_command (Check signature table hash date options) (OfSignature (Ok a)) asked are is_table is_answer zero written =
        inr (inl (of_check signature table hash date options contents rows a asked are is_table is_answer given written))
    vouched_for_command (Check signature table hash date options) (OfSignature (Err e)) asked are is_table is_answer zero written = absurd (omega arith)
    vouched_for_command (Check signature table hash date options) (OfChain count) asked are is_table is_answer zero written =
        absurd (no_chain_for_check signature table hash date options contents rows count is_answer)
    vouched_for_command (Chain table date names) (OfChain (Ok count)) asked are is_table is_answer zero written =
        inr (inr (of_chain table date names contents rows count asked are is_table is_answer given written))
    vouched_for_command (Chain table date names) (OfChain (Err e)) asked are is_table is_answer zero written = absurd (omega arith)
    vouched_for_command (Chain table date names) (OfSignature a) asked are is_table is_answer zero written =
        absurd (no_signature_for_chain table date names contents rows a is_answer)

  pub vouched_for : (line : Line) → IsRunAnswer program words shelf shelf_now line → line.status ≡ 0 → Appends held line.text held_now
      → IsVouched words shelf shelf_now held held_now
  vouched_for line h zero written =
      let read = h.2 in
      let returned = read.is_answered.is_answer in
      vouched_for_command read.is_answered.contents returned.rows read.given h.0 returned.answer h.1 read.is_answered.are_files returned.is_table
      returned.is_answer
      (sym (ap (λ (l : Line). l.status) returned.line_is) ∙ zero)
      (subst (λ (text : List ℕ). Appends held text held_now) (ap (λ (l : Line). l.text) returned.line_is) written)
