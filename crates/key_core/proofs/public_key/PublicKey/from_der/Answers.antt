use Rattle.std.proofs.Common.{◌≡◌, Result, Ok, Err, ap, ◌∙◌}
use Rattle.der_core.specs.declared.error.DerError.{DerError}
use Rattle.key_types.specs.declared.key_info.SubjectPublicKeyInfo.{SubjectPublicKeyInfo}
use Rattle.key_core.specs.KeyRefusals.{unread}
use Rattle.key_core.specs.declared.element.Element.TheVariants as elements
use Rattle.key_core.proofs.public_key.PublicKey.from_der.Goals as goal

source_is : (x y : DerError) → ◌≡◌ {A = Result SubjectPublicKeyInfo DerError} (Err x) (Err y) → x ≡ y
source_is x y e = cc

read_is_not_refused : (info : SubjectPublicKeyInfo) (e : DerError) → ◌≡◌ {A = Result SubjectPublicKeyInfo DerError} (Ok info) (Err e) → ⊥
read_is_not_refused info e same = cc

pub returns-in-Ok-clause-faulty : goal.returns-in-Ok-clause-faulty
returns-in-Ok-clause-faulty c = λ at fault is. absurd (read_is_not_refused _ _ (c.in-Ok.ensures.faulty at fault is))

pub returns-in-Err-clause-faulty : goal.returns-in-Err-clause-faulty
returns-in-Err-clause-faulty c =
    λ at fault is. ap Err (c.unread.ensures ∙ ap (unread elements.SubjectPublicKeyInfo) (source_is _ _ (c.in-Err.ensures.faulty at fault is)))
