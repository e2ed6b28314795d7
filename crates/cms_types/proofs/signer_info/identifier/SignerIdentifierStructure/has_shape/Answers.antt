use Rattle.cms_types.specs.declared.signer_info.identifier.SignerIdentifier.TheVariants as named
use Rattle.cms_types.proofs.signer_info.identifier.SignerIdentifierStructure.has_shape.Goals as goal

pub returns-in-Some-clause-fits : goal.returns-in-Some-clause-fits
returns-in-Some-clause-fits c = λ w. (named.SubjectKeyIdentifier c.in-Some.field-0.now, c.in-Some.ensures)

pub returns-in-None-clause-fits : goal.returns-in-None-clause-fits
returns-in-None-clause-fits c = λ w. let fit = c.has_shape.ensures.fits w in (named.IssuerAndSerialNumber fit.0, fit.1)
