use Rattle.std.proofs.Common.{Option, Some, refl, subst, sym}
use Rattle.der_core.specs.BorrowedOption.{at_option}
use Rattle.der_core.specs.Optional.{SpellsOption}
use Rattle.der_core.specs.declared.elem.Elem.{Elem}
use Rattle.x509_types.specs.Attribute.{AreAttributes}
use Rattle.x509_issuing.proofs.request_info.expect_attributes.Goals as goal

pub returns-in_default : goal.returns-in_default
returns-in_default c =
    let fit = c.if-not-has_list.ensures.fits refl in
    (Some fit.0, subst (λ (o : Option Elem). SpellsOption AreAttributes (at_option o) (Some fit.0)) (sym c.in-Some.is) fit.1)
