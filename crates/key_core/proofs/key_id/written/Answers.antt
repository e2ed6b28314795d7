use Rattle.std.proofs.Common.{sym, subst}
use Rattle.key_types.specs.declared.subject_key.SubjectKey.TheVariants.{Rsa}
use Rattle.key_core.specs.KeyIdentifier.{RefusesPayload}
use Rattle.key_core.proofs.KeyIdentifiers.{payload_refused}
use Rattle.key_core.proofs.key_id.written.Goals as goal

pub returns-in-Err : goal.returns-in-Err
returns-in-Err c = subst (RefusesPayload (Rsa c.args.key.now)) (sym c.unwritten.ensures) (payload_refused c.args.key.now c.in-Err.source c.in-Err.ensures)
