use Rattle.std.proofs.Common.{◌≡◌, Result, Ok, Err, ap, ◌∙◌}
use Rattle.der_core.specs.declared.error.DerError.{DerError}
use Rattle.key_core.specs.KeyRefusals.{unread}
use Rattle.key_core.specs.declared.element.Element.TheVariants as elements
use Rattle.key_core.specs.declared.private_key_info.PrivateKeyInfo.{PrivateKeyInfo}
use Rattle.key_core.proofs.Refusing.{pkcs8_kept}
use Rattle.key_core.proofs.private_key.PrivateKey.from_pkcs8.Goals as goal

source_is : (x y : DerError) → ◌≡◌ {A = Result PrivateKeyInfo DerError} (Err x) (Err y) → x ≡ y
source_is x y e = cc

read_is_not_refused : (info : PrivateKeyInfo) (e : DerError) → ◌≡◌ {A = Result PrivateKeyInfo DerError} (Ok info) (Err e) → ⊥
read_is_not_refused info e same = cc

pub returns-in-Ok-clause-answer : goal.returns-in-Ok-clause-answer
returns-in-Ok-clause-answer g c = pkcs8_kept _ _ _ c.in-Ok.ensures.answer _ c.kept.ensures

pub returns-in-Ok-clause-faulty : goal.returns-in-Ok-clause-faulty
returns-in-Ok-clause-faulty g c = λ at fault is. absurd (read_is_not_refused _ _ (c.in-Ok.ensures.faulty at fault is))

pub returns-in-Err-clause-faulty : goal.returns-in-Err-clause-faulty
returns-in-Err-clause-faulty g c =
    λ at fault is. ap Err (c.unread.ensures ∙ ap (unread elements.PrivateKeyInfo) (source_is _ _ (c.in-Err.ensures.faulty at fault is)))
