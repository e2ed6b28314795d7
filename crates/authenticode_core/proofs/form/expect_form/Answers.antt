use Rattle.std.proofs.Common.{refl, ◌∙◌}
use Rattle.cms_types.specs.SignedView.{data_elements}
use Rattle.cms_types.specs.SignerView.{signer_elements_at}
use Rattle.authenticode_core.proofs.FormSteps.{has_form}
use Rattle.authenticode_core.proofs.form.expect_form.Goals as goal

pub returns : goal.returns
returns c =
    let algorithm = c.in_ok-algorithm.algorithm in
    let content = c.in_ok-content.content in
    let of_content = c.if-not-is_same.ensures.0 refl ∙ algorithm.is.1.1 in
    let of_signer = c.if-not-is_same-2.ensures.0 refl ∙ algorithm.is.1.1 in
    record {
      algorithm = algorithm.is.0;
      d = c.in_ok-content.ensures.0;
      has = has_form (data_elements c.args.signed_data.now) c.in_ok-expect_version.ensures c.in_ok-signer.ensures.0 algorithm.is.0 c.in_ok-algorithm.ensures
          c.in_ok-content.ensures.0 content c.in_ok-content.ensures.1
          content.algorithm.whole.now content.algorithm.is.1.1 of_content (signer_elements_at c.in_ok-signer.signer)
          c.in_ok-signer.ensures.1 c.digest_algorithm.result.now c.digest_algorithm.ensures of_signer;
      content = c.in_ok-content.ensures.1;
    }
