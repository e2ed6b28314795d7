use Rattle.std.proofs.Common.{Some}
use Rattle.cms_content.proofs.Contents.{some_content}
use Rattle.cms_content.proofs.content_value.ContentValue.has_option_of.Goals as goal

pub returns-in-Some-clause-fits : goal.returns-in-Some-clause-fits
returns-in-Some-clause-fits c = λ w. let fit = c.has_shape_of.ensures.fits w in (Some fit.0, some_content _ _ _ fit.0 c.in-Some.is fit.1)
