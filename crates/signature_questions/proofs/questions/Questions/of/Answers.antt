use Rattle.cms_types.specs.SignedView.{data_elements}
use Rattle.signature_questions.proofs.Walk.{all_ahead}
use Rattle.signature_questions.proofs.questions.Questions.of.Goals as goal

pub returns : goal.returns
returns c = all_ahead (data_elements c.args.signed_data.now) _ c.of_signer.ensures c.path_of.ensures c.stamp_of.ensures
