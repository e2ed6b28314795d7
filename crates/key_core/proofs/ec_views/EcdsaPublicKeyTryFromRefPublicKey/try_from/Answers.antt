use Rattle.std.proofs.Common.{rules}
use Rattle.key_core.proofs.ec_views.EcdsaPublicKeyTryFromRefPublicKey.try_from.Goals as goal

pub returns-in-Ec : goal.returns-in-Ec
returns-in-Ec c = record {
  bits = c.in-Ec.bits;
  is = search rules;
  point_is = search rules;
  curve_is = search rules;
}
