use Rattle.authenticode_signature.proofs.Stamps.{are_stamped}
use Rattle.authenticode_signature.proofs.token_timestamper.stamped_signers.Goals as goal

pub returns-clause-stamped : goal.returns-clause-stamped
returns-clause-stamped c =
    are_stamped c.args.countersigners.now c.args.signers.now _ _ _ _ _ _ c.in_ok-stamp.stamp c.in-Some.ensures.cases.0 c.in_ok-stamp.ensures.made
    c.in_ok-stamped_signer.ensures
    c.new-stamped.ensures c.in_ok-push.ensures.ok c.in_ok-with_copies.ensures
