use Rattle.std.proofs.Common.{sym, subst, ◌∙◌}
use Rattle.der_core.specs.DerElement.{row}
use Rattle.cms_types.specs.Signers.{AreSignerInfos}
use Rattle.cms_types.proofs.Signers.{same_row}
use Rattle.cms_types.proofs.shapes.has_signers.Goals as goal

pub returns-in-Some-clause-fits : goal.returns-in-Some-clause-fits
returns-in-Some-clause-fits c = λ w. (c.in-Some.kids.are.0, (c.in-Some.ensures, c.are_signer_infos.ensures.fits w))

pub returns-in-Some-clause-unfit : goal.returns-in-Some-clause-unfit
returns-in-Some-clause-unfit c = λ signers no held.
    c.are_signer_infos.ensures.unfit no (subst AreSignerInfos (same_row 0x31 signers c.in-Some.kids.are.0 (sym held.0 ∙ c.in-Some.ensures)) held.1)

pub returns-in-None-clause-unfit : goal.returns-in-None-clause-unfit
returns-in-None-clause-unfit c = λ signers no held. c.in-None.ensures (row signers) held.0
