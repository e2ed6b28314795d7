use Rattle.std.proofs.Common.{◌≡◌, Result, Ok, Err, ap, ◌∙◌}
use Rattle.der_core.specs.declared.error.DerError.{DerError}
use Rattle.key_core.specs.declared.element.Element.TheVariants as elements
use Rattle.x509_issuing.specs.CsrRefusals.{unread_csr}
use Rattle.x509_issuing.specs.OwnedRequest.{KeptRequest}
use Rattle.x509_issuing.proofs.Rereading.{refused_for_memory, same_request}
use Rattle.x509_issuing.proofs.csr.Csr.from_der.Goals as goal

source_is : (x y : DerError) → ◌≡◌ {A = Result KeptRequest DerError} (Err x) (Err y) → x ≡ y
source_is x y e = cc

read_is_not_refused : (kept : KeptRequest) (e : DerError) → ◌≡◌ {A = Result KeptRequest DerError} (Ok kept) (Err e) → ⊥
read_is_not_refused kept e same = cc

pub returns-in-Ok-clause-faulty : goal.returns-in-Ok-clause-faulty
returns-in-Ok-clause-faulty c = λ at fault is. absurd (read_is_not_refused _ _ (c.in-Ok.ensures.faulty at fault is))

pub returns-in-Err-clause-faulty : goal.returns-in-Err-clause-faulty
returns-in-Err-clause-faulty c =
    λ at fault is. ap Err (c.unread.ensures ∙ ap (unread_csr elements.Request) (source_is _ _ (c.in-Err.ensures.faulty at fault is)))

pub returns-in-Ok-clause-shapeless : goal.returns-in-Ok-clause-shapeless
returns-in-Ok-clause-shapeless c = λ element der is none. absurd (read_is_not_refused _ _ (c.in-Ok.ensures.shapeless element der is none))

pub returns-in-Ok-clause-reread : goal.returns-in-Ok-clause-reread
returns-in-Ok-clause-reread c = λ csr is. same_request _ csr (c.in-Ok.ensures.kept ∙ is)

pub returns-in-Err-clause-reread : goal.returns-in-Err-clause-reread
returns-in-Err-clause-reread c = λ csr is. c.unread.ensures ∙ ap (unread_csr elements.Request) (refused_for_memory csr _ _ is c.in-Err.ensures.answer)
