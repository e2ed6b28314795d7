use Rattle.std.proofs.Common.{sym}
use Rattle.x509_types.specs.declared.attribute.values.AttributeValues.TheVariants as values
use Rattle.x509_types.proofs.Valued.{types_of, digests_of, requests_of, kept_of}
use Rattle.x509_types.proofs.attribute.values.AttributeValues.has_shape_of.Goals as goal

pub returns-in-ContentType-clause-fits : goal.returns-in-ContentType-clause-fits
returns-in-ContentType-clause-fits c = λ w. let fit = c.has_list.ensures.fits w in (values.ContentType fit.0, (sym c.in-ContentType.is, fit.1))

pub returns-in-ContentType-clause-unfit : goal.returns-in-ContentType-clause-unfit
returns-in-ContentType-clause-unfit c = λ no vs of. let list = types_of _ _ vs c.in-ContentType.is of in c.has_list.ensures.unfit no list.0 list.1

pub returns-in-MessageDigest-clause-fits : goal.returns-in-MessageDigest-clause-fits
returns-in-MessageDigest-clause-fits c = λ w. let fit = c.has_list-in-MessageDigest.ensures.fits w in
    (values.MessageDigest fit.0, (sym c.in-MessageDigest.is, fit.1))

pub returns-in-MessageDigest-clause-unfit : goal.returns-in-MessageDigest-clause-unfit
returns-in-MessageDigest-clause-unfit c = λ no vs of. let list = digests_of _ _ vs c.in-MessageDigest.is of in
    c.has_list-in-MessageDigest.ensures.unfit no list.0 list.1

pub returns-in-ExtensionRequest-clause-fits : goal.returns-in-ExtensionRequest-clause-fits
returns-in-ExtensionRequest-clause-fits c = λ w. let fit = c.has_list-in-ExtensionRequest.ensures.fits w in
    (values.Extensions fit.0, (sym c.in-ExtensionRequest.is, fit.1))

pub returns-in-ExtensionRequest-clause-unfit : goal.returns-in-ExtensionRequest-clause-unfit
returns-in-ExtensionRequest-clause-unfit c = λ no vs of. let list = requests_of _ _ vs c.in-ExtensionRequest.is of in
    c.has_list-in-ExtensionRequest.ensures.unfit no list.0 list.1

pub returns-in-Other-clause-fits : goal.returns-in-Other-clause-fits
returns-in-Other-clause-fits c = λ w. let fit = c.has_list-in-Other.ensures.fits w in (values.Raw fit.0, (sym c.in-Other.is, fit.1))

pub returns-in-Other-clause-unfit : goal.returns-in-Other-clause-unfit
returns-in-Other-clause-unfit c = λ no vs of. let list = kept_of _ _ vs c.in-Other.is of in c.has_list-in-Other.ensures.unfit no list.0 list.1
