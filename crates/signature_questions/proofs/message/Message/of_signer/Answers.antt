use Rattle.std.proofs.Common.{sym}
use Rattle.cms_types.specs.SignerView.{signer_elements_at}
use Rattle.signature_questions.proofs.Messages.{with_attributes, without_attributes}
use Rattle.signature_questions.proofs.message.Message.of_signer.Goals as goal

pub returns-in-Some : goal.returns-in-Some
returns-in-Some c =
    let elem = c.in-Some.attributes in
    with_attributes (signer_elements_at c.args.signer.now) elem.is.0 elem.whole.now elem.is.1.0 elem.is.1.1 c.args.signer.now.fits c.in-Some.ensures

pub returns-in-None : goal.returns-in-None
returns-in-None c = without_attributes (signer_elements_at c.args.signer.now) (sym c.in-None.ensures)
