use Rattle.std.proofs.Common.{rules}
use Rattle.key_core.proofs.ed_views.EdPublicKeyTryFromRefPublicKey.try_from.Goals as goal

pub returns-in-Ed : goal.returns-in-Ed
returns-in-Ed c = record {
  bits = c.in-Ed.bits;
  is = search rules;
  key_is = search rules;
  algorithm_is = search rules;
}
