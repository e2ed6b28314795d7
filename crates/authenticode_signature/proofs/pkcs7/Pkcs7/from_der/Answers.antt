use Rattle.std.proofs.Common.{◌≡◌, Result, Ok, Err, ap, ◌∙◌}
use Rattle.cms_types.specs.declared.signed_data.pkcs7.Pkcs7Certificate.{Pkcs7Certificate}
use Rattle.der_core.specs.declared.error.DerError.{DerError}
use Rattle.authenticode_signature.specs.Refusals.{unread}
use Rattle.authenticode_signature.proofs.pkcs7.Pkcs7.from_der.Goals as goal

source_is : (x y : DerError) → ◌≡◌ {A = Result Pkcs7Certificate DerError} (Err x) (Err y) → x ≡ y
source_is x y e = cc

read_is_not_refused : (value : Pkcs7Certificate) (e : DerError) → ◌≡◌ {A = Result Pkcs7Certificate DerError} (Ok value) (Err e) → ⊥
read_is_not_refused value e same = cc

pub returns-in-Ok-clause-faulty : goal.returns-in-Ok-clause-faulty
returns-in-Ok-clause-faulty c = λ at fault is. absurd (read_is_not_refused _ _ (c.in-Ok.ensures.faulty at fault is))

pub returns-in-Err-clause-faulty : goal.returns-in-Err-clause-faulty
returns-in-Err-clause-faulty c = λ at fault is. ap Err (c.unread.ensures ∙ ap unread (source_is _ _ (c.in-Err.ensures.faulty at fault is)))
