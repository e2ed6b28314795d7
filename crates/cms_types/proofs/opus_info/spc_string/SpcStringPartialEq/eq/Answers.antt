use Rattle.std.proofs.Common.{◌≡◌, ◌↔◌, IsTrue, Bool, refl, ap}
use Rattle.der_core.specs.Facts.Equality.{octets_decide}
use Rattle.cms_types.specs.SpcString.{spc_string}
use Rattle.cms_types.specs.Facts.SpcStrings.{spc_strings, same_string}
use Rattle.cms_types.specs.declared.opus_info.spc_string.SpcString.{SpcString}
use Rattle.cms_types.proofs.opus_info.spc_string.SpcStringPartialEq.eq.Goals as goal

by_field : (a b : SpcString) (test : Bool) → (IsTrue test ↔ (a.octets ≡ b.octets)) → IsTrue test ↔ (a ≡ b)
by_field a b test same = (λ t. same_string a b (same.0 t), λ e. same.1 (ap (λ (s : SpcString). s.octets) e))

pub returns-clause-same : goal.returns-clause-same
returns-clause-same c = by_field c.args.self.now c.args.other.now _ c.eq.ensures.same

pub returns-clause-octets : goal.returns-clause-octets
returns-clause-octets c =
    octets_decide spc_string (λ a b e. spc_strings.once (spc_string a) a b refl e) spc_strings.formed c.args.self.now c.args.other.now _ (returns-clause-same c)
