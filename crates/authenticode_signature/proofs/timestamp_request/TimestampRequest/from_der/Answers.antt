use Rattle.std.proofs.Common.{◌≡◌, Result, Ok, Err, ap, ◌∙◌}
use Rattle.der_core.specs.declared.error.DerError.{DerError}
use Rattle.key_core.specs.declared.element.Element.TheVariants as elements
use Rattle.x509_core.specs.CertRefusals.{unread}
use Rattle.cms_content.specs.declared.timestamp_request.TimestampRequest.{TimestampRequest}
use Rattle.authenticode_signature.proofs.timestamp_request.TimestampRequest.from_der.Goals as goal

source_is : (x y : DerError) → ◌≡◌ {A = Result TimestampRequest DerError} (Err x) (Err y) → x ≡ y
source_is x y e = cc

read_is_not_refused : (value : TimestampRequest) (e : DerError) → ◌≡◌ {A = Result TimestampRequest DerError} (Ok value) (Err e) → ⊥
read_is_not_refused value e same = cc

pub returns-in-Ok-clause-faulty : goal.returns-in-Ok-clause-faulty
returns-in-Ok-clause-faulty c = λ at fault is. absurd (read_is_not_refused _ _ (c.in-Ok.ensures.faulty at fault is))

pub returns-in-Ok-clause-shapeless : goal.returns-in-Ok-clause-shapeless
returns-in-Ok-clause-shapeless c = λ element der is none. absurd (read_is_not_refused _ _ (c.in-Ok.ensures.shapeless element der is none))

pub returns-in-Err-clause-faulty : goal.returns-in-Err-clause-faulty
returns-in-Err-clause-faulty c =
    λ at fault is. ap Err (c.unread.ensures ∙ ap (unread elements.TimestampRequest) (source_is _ _ (c.in-Err.ensures.faulty at fault is)))

pub returns-in-Err-clause-shapeless : goal.returns-in-Err-clause-shapeless
returns-in-Err-clause-shapeless c =
    λ element der is none. ap Err (c.unread.ensures ∙ ap (unread elements.TimestampRequest) (source_is _ _ (c.in-Err.ensures.shapeless element der is none)))
