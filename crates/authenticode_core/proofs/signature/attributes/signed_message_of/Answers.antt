use Rattle.std.proofs.Common.{sym}
use Rattle.cms_types.specs.SignerView.{signer_elements_at}
use Rattle.authenticode_core.proofs.SignedMessages.{attributes_bit, message_of, empty_message}
use Rattle.authenticode_core.proofs.signature.attributes.signed_message_of.Goals as goal

pub as_set-requires : goal.as_set-requires
as_set-requires c = attributes_bit _ _ c.args.signer.now.fits (sym c.in-Some.ensures)

pub returns-in-Some : goal.returns-in-Some
returns-in-Some c = message_of _ _ (signer_elements_at c.args.signer.now) _ (sym c.in-Some.ensures) c.as_set.ensures

pub returns-in-None : goal.returns-in-None
returns-in-None c = empty_message _ _ (signer_elements_at c.args.signer.now) (sym c.in-None.ensures) c.from_slice.ensures.items
