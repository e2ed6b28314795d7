use Rattle.std.proofs.Common.{refl, rules}
use Rattle.der_core.specs.Facts.Equality.{octets_decide}
use Rattle.extension_types.specs.KeyUsage.{key_usage}
use Rattle.extension_types.specs.Facts.Usages.{key_usages}
use Rattle.extension_types.proofs.key_usage.KeyUsagePartialEq.eq.Goals as goal

pub returns-clause-octets : goal.returns-clause-octets
returns-clause-octets c =
    octets_decide key_usage (λ a b e. key_usages.once (key_usage a) a b refl e) key_usages.formed c.args.self.now c.args.other.now _ (search rules)
