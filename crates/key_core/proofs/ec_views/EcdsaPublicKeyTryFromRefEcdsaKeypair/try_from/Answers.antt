use Rattle.std.proofs.Common.{rules}
use Rattle.key_core.proofs.ec_views.EcdsaPublicKeyTryFromRefEcdsaKeypair.try_from.Goals as goal

pub returns-in-Some : goal.returns-in-Some
returns-in-Some c = record {
  bits = c.in-Some.bits.now;
  is = search rules;
  point_is = search rules;
  curve_is = search rules;
}
