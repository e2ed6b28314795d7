use Rattle.std.proofs.Common.{sym, subst}
use Rattle.std.proofs.lemmas.Grind.{merely}
use Rattle.std.proofs.lemmas.Result.{err_from_is_err_and}
use Rattle.der_core.specs.DerElement.{DerElement}
use Rattle.der_core.proofs.Parts.{refuses_as}
use Rattle.x509_types.specs.Attribute.{AreAttributes}
use Rattle.cms_types.proofs.Unsigned.{no_signed}
use Rattle.cms_types.proofs.signer_info.signed_attributes.SignedAttributesStructure.read_at.Goals as goal

pub returns-in_err-list : goal.returns-in_err-list
returns-in_err-list c =
    let p = err_from_is_err_and c.from_residual.result c.from_residual.ensures.1 in
    rw (p.1, p.2) (refuses_as _ _ _ (λ none v is. no_signed _ v is none) c.in_err-list.ensures)

pub invariant_of-result : goal.invariant_of-result
invariant_of-result c =
    record { are = merely (subst (λ (t : DerElement). AreAttributes t c.in_ok-list.list) (sym c.in_ok-element.ensures) c.in_ok-list.ensures) }
