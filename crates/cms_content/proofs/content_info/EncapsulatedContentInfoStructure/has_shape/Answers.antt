use Rattle.cms_content.proofs.Contents.{of_fields}
use Rattle.cms_content.proofs.content_info.EncapsulatedContentInfoStructure.has_shape.Goals as goal

pub returns-in-Some-at-clause-fits : goal.returns-in-Some-at-clause-fits
returns-in-Some-at-clause-fits c = λ w.
    let id = c.in-Some-at.ensures in
    let fit = c.has_option_of.ensures.fits w in
    of_fields _ _ _ id.0 _ fit.0 c.in-Some.ensures id.1 id.2 fit.1
