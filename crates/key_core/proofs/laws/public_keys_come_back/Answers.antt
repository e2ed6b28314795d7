use Rattle.std.proofs.Common.{refl}
use Rattle.der_core.specs.Facts.Within.{within_once}
use Rattle.key_types.specs.PublicKeyInfo.{public_key_info, IsPublicKeyInfo}
use Rattle.key_types.specs.Facts.Keys.{public_key_infos}
use Rattle.key_core.specs.declared.element.Element.TheVariants as elements
use Rattle.key_core.proofs.ComesBack.{unread_for_memory}
use Rattle.key_core.proofs.laws.public_keys_come_back.Goals as goal

pub returns-clause-again : goal.returns-clause-again
returns-clause-again c = λ octets info again whole within.
    within_once IsPublicKeyInfo public_key_infos.once octets again info within
    (record { element = public_key_info info; der = whole.1; encoded = whole.0; spelled = (refl, whole.2) })

pub returns-clause-memory : goal.returns-clause-memory
returns-clause-memory c = λ octets info e whole unread.
    unread_for_memory IsPublicKeyInfo octets (public_key_info info) info whole.1 whole.0 (refl, whole.2) elements.SubjectPublicKeyInfo e unread
