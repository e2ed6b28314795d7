use Rattle.std.proofs.Common.{sym}
use Rattle.der_core.specs.Elements.{octet_string}
use Rattle.der_core.specs.Facts.Lists.{printed_list}
use Rattle.cms_content.specs.HeldPurposesElement.{held_purposes}
use Rattle.cms_content.specs.declared.ctl_values.CTLEntryAttributeValues.TheVariants as values
use Rattle.cms_content.proofs.CtlHeld.{kept_element, hashes_of, times_of, starts_of, purposes_of, others_of}
use Rattle.cms_content.proofs.ctl_values.CTLEntryAttributeValues.has_shape_of.Goals as goal

pub returns-in-CertSubjectNameMd5HashPropId-clause-fits : goal.returns-in-CertSubjectNameMd5HashPropId-clause-fits
returns-in-CertSubjectNameMd5HashPropId-clause-fits c = λ w. let fit = c.has_list.ensures.fits w in
    (values.CertSubjectNameMd5HashPropId fit.0, (sym c.in-CertSubjectNameMd5HashPropId.is, printed_list octet_string 0x31 _ fit.0 fit.1))

pub returns-in-CertSubjectNameMd5HashPropId-clause-unfit : goal.returns-in-CertSubjectNameMd5HashPropId-clause-unfit
returns-in-CertSubjectNameMd5HashPropId-clause-unfit c = λ none vs of. let list = hashes_of _ _ vs c.in-CertSubjectNameMd5HashPropId.is of in
    c.has_list.ensures.unfit none list.0 list.1

pub returns-in-CertDisallowedFileTimePropId-clause-fits : goal.returns-in-CertDisallowedFileTimePropId-clause-fits
returns-in-CertDisallowedFileTimePropId-clause-fits c = λ w. let fit = c.has_list-in-CertDisallowedFileTimePropId.ensures.fits w in
    (values.CertDisallowedFileTimePropId fit.0, (sym c.in-CertDisallowedFileTimePropId.is, printed_list octet_string 0x31 _ fit.0 fit.1))

pub returns-in-CertDisallowedFileTimePropId-clause-unfit : goal.returns-in-CertDisallowedFileTimePropId-clause-unfit
returns-in-CertDisallowedFileTimePropId-clause-unfit c = λ none vs of. let list = times_of _ _ vs c.in-CertDisallowedFileTimePropId.is of in
    c.has_list-in-CertDisallowedFileTimePropId.ensures.unfit none list.0 list.1

pub returns-in-UnknownReservedPropId126-clause-fits : goal.returns-in-UnknownReservedPropId126-clause-fits
returns-in-UnknownReservedPropId126-clause-fits c = λ w. let fit = c.has_list-in-UnknownReservedPropId126.ensures.fits w in
    (values.UnknownReservedPropId126 fit.0, (sym c.in-UnknownReservedPropId126.is, printed_list octet_string 0x31 _ fit.0 fit.1))

pub returns-in-UnknownReservedPropId126-clause-unfit : goal.returns-in-UnknownReservedPropId126-clause-unfit
returns-in-UnknownReservedPropId126-clause-unfit c = λ none vs of. let list = starts_of _ _ vs c.in-UnknownReservedPropId126.is of in
    c.has_list-in-UnknownReservedPropId126.ensures.unfit none list.0 list.1

pub returns-in-UnknownReservedPropId127-clause-fits : goal.returns-in-UnknownReservedPropId127-clause-fits
returns-in-UnknownReservedPropId127-clause-fits c = λ w. let fit = c.has_list-in-UnknownReservedPropId127.ensures.fits w in
    (values.UnknownReservedPropId127 fit.0, (sym c.in-UnknownReservedPropId127.is, printed_list held_purposes 0x31 _ fit.0 fit.1))

pub returns-in-UnknownReservedPropId127-clause-unfit : goal.returns-in-UnknownReservedPropId127-clause-unfit
returns-in-UnknownReservedPropId127-clause-unfit c = λ none vs of. let list = purposes_of _ _ vs c.in-UnknownReservedPropId127.is of in
    c.has_list-in-UnknownReservedPropId127.ensures.unfit none list.0 list.1

pub returns-in-Other-clause-fits : goal.returns-in-Other-clause-fits
returns-in-Other-clause-fits c = λ w. let fit = c.has_list-in-Other.ensures.fits w in
    (values.Other fit.0, (sym c.in-Other.is, printed_list kept_element 0x31 _ fit.0 fit.1))

pub returns-in-Other-clause-unfit : goal.returns-in-Other-clause-unfit
returns-in-Other-clause-unfit c = λ none vs of. let list = others_of _ _ vs c.in-Other.is of in c.has_list-in-Other.ensures.unfit none list.0 list.1
