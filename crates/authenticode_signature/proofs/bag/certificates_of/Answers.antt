use Rattle.authenticode_core.proofs.SignerOrder.{given}
use Rattle.authenticode_signature.proofs.Members.{all_read, one_read}
use Rattle.authenticode_signature.proofs.bag.certificates_of.Goals as goal

pub loop-member-preserved-in_ok-push : goal.loop-member-preserved-in_ok-push
loop-member-preserved-in_ok-push c =
    one_read _ _ _ _ _ _ _ _ c.loop-member.invariant c.in-Some.ensures.cases.0 c.element.ensures (given _ _ _ _ c.in-Some-2.is c.in_ok-certificate.ensures)
    c.in_ok-push.ensures.items

pub returns : goal.returns
returns c = all_read _ _ _ c.loop-member.invariant c.in_default.ensures.cases
