-- What a run accepts is what is trusted by its table, and by the verifier behind that.
use Rattle.std.proofs.Common.{ℕ, List, Option, Some, inl, inr, refl}
use Rattle.key_core.specs.Verifying.{Judge}
use Rattle.sig_core.specs.VerdictTable.{verdict_of}
use Rattle.authenticode_core.specs.Trusted.{IsTrusted}
use Rattle.program_frame.specs.Shelf.{ShelfState}
use Rattle.x509_core.specs.Chain.{IsAccepted}
use Rattle.signature_questions.specs.Asked.{IsOfChain, IsQuestion}
use Rattle.signature_questions.specs.Question.{Question}
use Rattle.signature_questions.proofs.Admitted.{trusted}
use Rattle.signature_questions.proofs.Chains.{chain_accepted}
use Rattle.picky_check.specs.ChainAnswer.{all_checks}
use Rattle.picky_check.specs.ChainHeadline.{IsVouchedChain}
use Rattle.picky_check.specs.Headline.{IsVouchedFor, IsVouchedSignature}
use Rattle.picky_check.specs.Policies.{basic_policy, check_policy}
use Rattle.picky_check.specs.Vouched.{IsVouched}
use Rattle.pe_image.specs.PeAnswer.{policy_for}
use Rattle.pe_image.specs.ProgramPolicy.{program_policy}
use Rattle.pe_image.specs.Vouched.{IsVouchedProgram}
use Rattle.vouching.specs.Verified.{StandsBehind}
use Rattle.vouching.specs.VouchedBy.{IsProgramVouchedBy, IsVouchedBy, MayAsk, rows_of}
use Rattle.vouching.proofs.Backing.{admitted}

module _ (words : List (List ℕ)) (shelf shelf_now : ShelfState) (held held_now : Option (List ℕ)) where
  of_basic : (run : IsVouchedFor words shelf shelf_now held held_now)
      → IsTrusted (verdict_of run.rows) (basic_policy run.hash) run.signed_data run.accepted
  of_basic run = record {
    basic = λ on. record {
      hash = run.hash;
      given = refl;
      place = run.vouched.place;
      vouches = run.vouched.vouches;
      place_is = run.vouched.place_is;
    };
    signing = λ on. absurd cc;
    listed = λ on. absurd cc;
    pathless = λ off. (run.pathless, run.unexcused);
    placeless = λ off unsigned unlisted. absurd cc;
  }

  of_check : (run : IsVouchedSignature words shelf shelf_now held held_now)
      → IsTrusted (verdict_of run.rows) (check_policy run.hash run.date run.options run.list) run.signed_data run.accepted
  of_check run = record {
    basic = λ on. record {
      hash = run.hash;
      given = refl;
      place = run.vouched.place;
      vouches = run.vouched.vouches;
      place_is = run.vouched.place_is;
    };
    signing = λ on. run.signer;
    listed = λ on. run.listed on;
    pathless = λ off. absurd cc;
    placeless = λ off unsigned unlisted. absurd cc;
  }

  of_chain : (run : IsVouchedChain words shelf shelf_now held held_now)
      → IsAccepted (verdict_of run.rows) (all_checks run.date) run.checked (Some run.parents)
  of_chain run = record {
    dated = λ asks none. absurd cc;
    valid = run.valid;
    chained = λ on. record { parents = run.parents; is = refl; linked = run.linked; rooted = λ rooted. run.rooted };
  }

  of_program : (run : IsVouchedProgram words shelf shelf_now held held_now)
      → IsTrusted (verdict_of run.rows) (policy_for (program_policy run.command.date run.command.options run.list) (Some run.vouched.hash))
      run.vouched.signed_data run.accepted
  of_program run = record {
    basic = λ on. record {
      hash = run.vouched.hash;
      given = refl;
      place = run.vouched.place;
      vouches = run.vouched.vouches;
      place_is = run.vouched.place_is;
    };
    signing = λ on. run.vouched.signer;
    listed = λ on. run.vouched.listed on;
    pathless = λ off. absurd cc;
    placeless = λ off unsigned unlisted. absurd cc;
  }

  pub vouched_by : (run : IsVouched words shelf shelf_now held held_now) (judge : Judge) (asked : List Question)
      → StandsBehind judge asked (MayAsk run) (rows_of run) → IsVouchedBy judge run
  vouched_by (inl run) judge asked behind = (
    run.signed_data,
    run.vouched.holds,
    trusted (verdict_of run.rows) judge run.signed_data (admitted judge asked (IsQuestion run.signed_data) run.rows behind) (basic_policy run.hash) run.accepted
        (of_basic run),
  )
  vouched_by (inr (inl run)) judge asked behind = (
    run.signed_data,
    run.vouched.holds,
    trusted (verdict_of run.rows) judge run.signed_data (admitted judge asked (IsQuestion run.signed_data) run.rows behind)
        (check_policy run.hash run.date run.options run.list) run.accepted (of_check run),
  )
  vouched_by (inr (inr run)) judge asked behind =
      chain_accepted (verdict_of run.rows) judge (all_checks run.date) run.checked run.parents
      (admitted judge asked (IsOfChain run.checked run.parents) run.rows behind) (of_chain run)

  pub program_vouched_by : (run : IsVouchedProgram words shelf shelf_now held held_now) (judge : Judge) (asked : List Question)
      → StandsBehind judge asked (IsQuestion run.vouched.signed_data) run.rows → IsProgramVouchedBy judge run
  program_vouched_by run judge asked behind = record {
    image = run.vouched.image;
    hash = Some run.vouched.hash;
    hash_is = (run.vouched.algorithm, (run.vouched.hash, run.vouched.stated), run.vouched.hash_is);
    answer = (
      run.vouched.signed_data,
      run.vouched.holds,
      trusted (verdict_of run.rows) judge run.vouched.signed_data (admitted judge asked (IsQuestion run.vouched.signed_data) run.rows behind)
          (policy_for (program_policy run.command.date run.command.options run.list) (Some run.vouched.hash)) run.accepted (of_program run),
    );
  }
