use Rattle.std.proofs.Common.{◌≡◌, Result, Ok, Err, ap, ◌∙◌}
use Rattle.der_core.specs.declared.error.DerError.{DerError}
use Rattle.key_types.specs.declared.public_key.RsaPublicKey.{RsaPublicKey}
use Rattle.key_core.specs.KeyRefusals.{unread}
use Rattle.key_core.specs.declared.element.Element.TheVariants as elements
use Rattle.key_core.proofs.public_key.PublicKey.from_pkcs1.Goals as goal

source_is : (x y : DerError) → ◌≡◌ {A = Result RsaPublicKey DerError} (Err x) (Err y) → x ≡ y
source_is x y e = cc

read_is_not_refused : (key : RsaPublicKey) (e : DerError) → ◌≡◌ {A = Result RsaPublicKey DerError} (Ok key) (Err e) → ⊥
read_is_not_refused key e same = cc

pub returns-in_err-rsa_info-in-Ok-clause-faulty : goal.returns-in_err-rsa_info-in-Ok-clause-faulty
returns-in_err-rsa_info-in-Ok-clause-faulty c = λ at fault is. absurd (read_is_not_refused _ _ (c.in-Ok.ensures.faulty at fault is))

pub returns-in_ok-rsa_info-in-Ok-clause-faulty : goal.returns-in_ok-rsa_info-in-Ok-clause-faulty
returns-in_ok-rsa_info-in-Ok-clause-faulty c = λ at fault is. absurd (read_is_not_refused _ _ (c.in-Ok.ensures.faulty at fault is))

pub returns-in-Err-clause-faulty : goal.returns-in-Err-clause-faulty
returns-in-Err-clause-faulty c =
    λ at fault is. ap Err (c.unread.ensures ∙ ap (unread elements.RsaPublicKey) (source_is _ _ (c.in-Err.ensures.faulty at fault is)))

pub returns-in_err-rsa_info-in-Ok-clause-shapeless : goal.returns-in_err-rsa_info-in-Ok-clause-shapeless
returns-in_err-rsa_info-in-Ok-clause-shapeless c = λ element der is none. absurd (read_is_not_refused _ _ (c.in-Ok.ensures.shapeless element der is none))

pub returns-in_ok-rsa_info-in-Ok-clause-shapeless : goal.returns-in_ok-rsa_info-in-Ok-clause-shapeless
returns-in_ok-rsa_info-in-Ok-clause-shapeless c = λ element der is none. absurd (read_is_not_refused _ _ (c.in-Ok.ensures.shapeless element der is none))

pub returns-in-Err-clause-shapeless : goal.returns-in-Err-clause-shapeless
returns-in-Err-clause-shapeless c =
    λ element der is none. ap Err (c.unread.ensures
    ∙ ap (unread elements.RsaPublicKey)
    (source_is _ _ (c.in-Err.ensures.shapeless element der is none)))

pub returns-in-Err-clause-answer : goal.returns-in-Err-clause-answer
returns-in-Err-clause-answer c = (_, c.unread.ensures, c.in-Err.ensures.answer)

pub returns-in_ok-rsa_info-in-Ok-clause-answer : goal.returns-in_ok-rsa_info-in-Ok-clause-answer
returns-in_ok-rsa_info-in-Ok-clause-answer c = record { key = c.in-Ok.key; rsa = c.in_ok-rsa_info-in-Ok.ensures; within = c.in-Ok.ensures.answer }
