use Rattle.std.proofs.Common.{rules}
use Rattle.key_core.proofs.ed_views.EdPublicKeyTryFromRefEdKeypair.try_from.Goals as goal

pub returns-in-Some : goal.returns-in-Some
returns-in-Some c = record {
  bits = c.in-Some.bits.now;
  is = search rules;
  key_is = search rules;
  algorithm_is = search rules;
}
