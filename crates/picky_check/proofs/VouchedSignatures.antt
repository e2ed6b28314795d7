-- An accepted signature file is vouched for.
use Rattle.std.proofs.Common.{◌≡◌, List, [], ℕ, ◌+◌, length, Option, Some, Ok, refl, subst}
use Rattle.std.specs.Borrow.{Bor}
use Rattle.asn1_types.specs.declared.generalized_time.GeneralizedTime.{GeneralizedTime}
use Rattle.cms_types.specs.SignedDataElements.{SignedDataElements}
use Rattle.sig_core.specs.declared.verdict_row.VerdictRow.{VerdictRow}
use Rattle.sig_core.specs.VerdictTable.{IsTable, verdict_of}
use Rattle.key_core.specs.Verifying.{Judge}
use Rattle.authenticode_core.specs.Basic.{HasSignedData, VouchesFor}
use Rattle.authenticode_core.specs.Trusted.{IsAnswer, IsBasicallyVouched}
use Rattle.authenticode_core.specs.declared.accepted.Accepted.{Accepted}
use Rattle.authenticode_core.specs.declared.ctl.CertificateTrustList.{CertificateTrustList}
use Rattle.program_frame.specs.Options.{CheckOptions}
use Rattle.picky_check.specs.Headline.{IsGivenList, IsVouchedFile, IsVouchedFor, IsVouchedSignature}
use Rattle.program_frame.specs.Limits.{IsWholeFile}
use Rattle.picky_check.specs.Policies.{basic_policy, check_policy}
use Rattle.program_frame.specs.ReadFiles.{HandsOut, total_length}
use Rattle.picky_check.specs.Report.{accepted_line}
use Rattle.program_frame.specs.Shelf.{ShelfState}
use Rattle.program_frame.specs.Sink.{Appends}
use Rattle.picky_check.specs.Words.{Basic, Check, AsksFor}

same_hash : (a b : List ℕ) → Some a ≡ Some b → b ≡ a
same_hash a b is = cc

of_hash : (judge : Judge) (f : SignedDataElements) (hash : List ℕ) (a : Accepted) (h : IsBasicallyVouched judge (Some hash) f a)
    → VouchesFor judge f hash h.place
of_hash judge f hash a h = subst (λ (x : List ℕ). VouchesFor judge f x h.place) (same_hash hash h.hash h.given) h.vouches

module _ (words : List (List ℕ)) (shelf shelf_now : ShelfState) (signature table hash : List ℕ) (octets text : List ℕ) (rows : List VerdictRow)
    (signature_file : IsWholeFile shelf.files signature octets) (table_file : IsWholeFile shelf.files table text)
    (lists : List (List ℕ)) (given : HandsOut (length octets + length text + total_length lists) shelf shelf_now) (is_table : IsTable text rows)
    (accepted : Accepted) where
  module _ (one_signed_data : (o : List ℕ) (f g : SignedDataElements) → HasSignedData o f → HasSignedData o g → f ≡ g)
      (held held_now : Option (List ℕ)) (written : Appends held (accepted_line accepted) held_now) where
    of_file : (f : SignedDataElements) → HasSignedData octets f → IsBasicallyVouched (verdict_of rows) (Some hash) f accepted
        → IsVouchedFile signature table hash lists shelf shelf_now rows f accepted
    of_file f holds basic = record {
      octets = octets;
      text = text;
      signature_file = signature_file;
      table_file = table_file;
      given = given;
      is_table = is_table;
      holds = holds;
      one = λ other has. one_signed_data octets other f has holds;
      place = basic.place;
      place_is = basic.place_is;
      vouches = of_hash (verdict_of rows) f hash accepted basic;
    }

    pub vouched_basic : lists ≡ [] → AsksFor words (Basic signature table hash) → IsAnswer (verdict_of rows) (basic_policy hash) octets (Ok accepted)
        → IsVouchedFor words shelf shelf_now held held_now
    vouched_basic none asked answer =
        let nothing_more = answer.2.pathless refl in record {
          signature = signature;
          table = table;
          hash = hash;
          asked = asked;
          rows = rows;
          signed_data = answer.0;
          accepted = accepted;
          vouched = subst (λ (l : List (List ℕ)). IsVouchedFile signature table hash l shelf shelf_now rows answer.0 accepted) none
              (of_file answer.0 answer.1 (answer.2.basic refl));
          pathless = nothing_more.0;
          unexcused = nothing_more.1;
          written = written;
        }

    pub vouched_check : (date : GeneralizedTime) (options : CheckOptions) → AsksFor words (Check signature table hash date options)
        → (list : Option (Bor CertificateTrustList)) → IsGivenList shelf.files options.list lists list
        → IsAnswer (verdict_of rows) (check_policy hash date options list) octets (Ok accepted)
        → IsVouchedSignature words shelf shelf_now held held_now
    vouched_check date options asked list list_given answer = record {
      signature = signature;
      table = table;
      hash = hash;
      date = date;
      options = options;
      asked = asked;
      rows = rows;
      signed_data = answer.0;
      accepted = accepted;
      lists = lists;
      list = list;
      list_given = list_given;
      vouched = of_file answer.0 answer.1 (answer.2.basic refl);
      signer = answer.2.signing refl;
      listed = λ there. answer.2.listed there;
      written = written;
    }
