use Rattle.std.proofs.Common.{◌≡◌, Result, Ok, Err, sym, ap, ◌∙◌}
use Rattle.der_core.specs.declared.error.DerError.{DerError}
use Rattle.key_core.specs.declared.element.Element.TheVariants as elements
use Rattle.x509_core.specs.CertRefusals.{unread}
use Rattle.x509_core.specs.OwnedCertificate.{KeptCertificate}
use Rattle.x509_core.proofs.OwnedOctets.{refused_for_memory, same_certificate}
use Rattle.x509_core.proofs.cert.Cert.from_der.Goals as goal

source_is : (x y : DerError) → ◌≡◌ {A = Result KeptCertificate DerError} (Err x) (Err y) → x ≡ y
source_is x y e = cc

read_is_not_refused : (kept : KeptCertificate) (e : DerError) → ◌≡◌ {A = Result KeptCertificate DerError} (Ok kept) (Err e) → ⊥
read_is_not_refused kept e same = cc

pub returns-in-Ok-clause-faulty : goal.returns-in-Ok-clause-faulty
returns-in-Ok-clause-faulty c = λ at fault is. absurd (read_is_not_refused _ _ (c.in-Ok.ensures.faulty at fault is))

pub returns-in-Err-clause-faulty : goal.returns-in-Err-clause-faulty
returns-in-Err-clause-faulty c =
    λ at fault is. ap Err (c.unread.ensures ∙ ap (unread elements.Certificate) (source_is _ _ (c.in-Err.ensures.faulty at fault is)))

pub returns-in-Ok-clause-shapeless : goal.returns-in-Ok-clause-shapeless
returns-in-Ok-clause-shapeless c = λ element der is none. absurd (read_is_not_refused _ _ (c.in-Ok.ensures.shapeless element der is none))

pub returns-in-Ok-clause-reread : goal.returns-in-Ok-clause-reread
returns-in-Ok-clause-reread c = λ cert is. same_certificate _ cert (c.in-Ok.ensures.kept ∙ is)

pub returns-in-Err-clause-reread : goal.returns-in-Err-clause-reread
returns-in-Err-clause-reread c = λ cert is. c.unread.ensures ∙ ap (unread elements.Certificate) (refused_for_memory cert _ _ (sym is) c.in-Err.ensures.answer)
