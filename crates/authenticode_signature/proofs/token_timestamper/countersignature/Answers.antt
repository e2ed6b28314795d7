use Rattle.authenticode_signature.proofs.Stamps.{countersigned, not_countersigned}
use Rattle.authenticode_core.specs.StampRefusal.{stamp_refusal}
use Rattle.std.proofs.Common.{ap, ◌∙◌}
use Rattle.authenticode_signature.proofs.token_timestamper.countersignature.Goals as goal

pub returns-in-Ok-clause-made : goal.returns-in-Ok-clause-made
returns-in-Ok-clause-made c = countersigned c.args.signers.now _ _ _ c.in-Some.ensures.cases.0 c.in-Ok.ensures

pub returns-in-Err-clause-made : goal.returns-in-Err-clause-made
returns-in-Err-clause-made c = not_countersigned c.args.signers.now _ _ c.in-Err.source _ c.in-Some.ensures.cases.0 c.in-Err.ensures
    (c.from.ensures ∙ ap stamp_refusal c.unwritten.ensures)
