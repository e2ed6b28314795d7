use Rattle.std.proofs.Common.{sym}
use Rattle.cms_content.specs.declared.content_value.ContentValue.TheVariants as contents
use Rattle.cms_content.proofs.Contents.{list_of, other_of}
use Rattle.cms_content.proofs.content_value.ContentValue.has_shape_of.Goals as goal

pub returns-in-IndirectData-clause-fits : goal.returns-in-IndirectData-clause-fits
returns-in-IndirectData-clause-fits c = λ w. let fit = c.has_shape.ensures.fits w in (contents.SpcIndirectDataContent fit.0, (sym c.in-IndirectData.is, fit.1))

pub returns-in-CertificateTrustList-clause-fits : goal.returns-in-CertificateTrustList-clause-fits
returns-in-CertificateTrustList-clause-fits c = λ w. let fit = c.has_shape-in-CertificateTrustList.ensures.fits w in
    (contents.CertificateTrustList fit.0, (sym c.in-CertificateTrustList.is, fit.1))

pub returns-in-CertificateTrustList-clause-unfit : goal.returns-in-CertificateTrustList-clause-unfit
returns-in-CertificateTrustList-clause-unfit c = λ no content of. let x = list_of _ _ content c.in-CertificateTrustList.is of in
    c.has_shape-in-CertificateTrustList.ensures.unfit no x.0 x.1

pub returns-in-Data-clause-fits : goal.returns-in-Data-clause-fits
returns-in-Data-clause-fits c = λ w. let fit = c.has_shape-in-Data.ensures.fits w in (contents.Data fit.0, (sym c.in-Data.is, fit.1))

pub returns-in-Other-clause-fits : goal.returns-in-Other-clause-fits
returns-in-Other-clause-fits c = λ w. let fit = c.has_shape-in-Other.ensures.fits w in (contents.Other fit.0, (sym c.in-Other.is, fit.1))

pub returns-in-Other-clause-unfit : goal.returns-in-Other-clause-unfit
returns-in-Other-clause-unfit c = λ no content of. let x = other_of _ _ content c.in-Other.is of in c.has_shape-in-Other.ensures.unfit no x.0 x.1
