use Rattle.std.proofs.Common.{◌≡◌, Result, Ok, Err, ap, ◌∙◌}
use Rattle.authenticode_core.specs.StampRefusal.{token_refusal}
use Rattle.authenticode_core.specs.declared.pkcs7_error.Pkcs7Error.{Pkcs7Error}
use Rattle.authenticode_signature.specs.declared.pkcs7.Pkcs7.{Pkcs7}
use Rattle.authenticode_signature.proofs.token_timestamper.TokenTimestamper.from_der.Goals as goal

source_is : (x y : Pkcs7Error) → ◌≡◌ {A = Result Pkcs7 Pkcs7Error} (Err x) (Err y) → x ≡ y
source_is x y e = cc

read_is_not_refused : (value : Pkcs7) (e : Pkcs7Error) → ◌≡◌ {A = Result Pkcs7 Pkcs7Error} (Ok value) (Err e) → ⊥
read_is_not_refused value e same = cc

pub returns-in-Ok-clause-faulty : goal.returns-in-Ok-clause-faulty
returns-in-Ok-clause-faulty c = λ at fault is. absurd (read_is_not_refused _ _ (c.in-Ok.ensures.faulty at fault is))

pub returns-in-Ok-clause-shapeless : goal.returns-in-Ok-clause-shapeless
returns-in-Ok-clause-shapeless c = λ element der is none. absurd (read_is_not_refused _ _ (c.in-Ok.ensures.shapeless element der is none))

pub returns-in-Err-clause-faulty : goal.returns-in-Err-clause-faulty
returns-in-Err-clause-faulty c = λ at fault is. ap Err (c.from.ensures ∙ ap token_refusal (source_is _ _ (c.in-Err.ensures.faulty at fault is)))

pub returns-in-Err-clause-shapeless : goal.returns-in-Err-clause-shapeless
returns-in-Err-clause-shapeless c =
    λ element der is none. ap Err (c.from.ensures ∙ ap token_refusal (source_is _ _ (c.in-Err.ensures.shapeless element der is none)))
