use Rattle.authenticode_signature.proofs.Stamps.{first_signed}
use Rattle.authenticode_signature.proofs.stamping.first_signature.Goals as goal

pub returns-in-Some : goal.returns-in-Some
returns-in-Some c = first_signed c.args.signers.now c.in-Some.signer.now _ c.in-Some.ensures.value c.as_slice.ensures
