use Rattle.std.proofs.Common.{sym}
use Rattle.std.proofs.lemmas.Result.{err_from_is_err_and}
use Rattle.der_core.specs.Elements.{octet_string}
use Rattle.der_core.specs.Facts.Lists.{list_refused, printed_list}
use Rattle.cms_content.specs.HeldPurposesElement.{held_purposes}
use Rattle.cms_content.proofs.CtlHeld.{kept_element, hashes_of, times_of, starts_of, purposes_of, others_of}
use Rattle.cms_content.proofs.ctl_values.CTLEntryAttributeValues.read_of.Goals as goal

pub returns-in_err-values-in-CertSubjectNameMd5HashPropId : goal.returns-in_err-values-in-CertSubjectNameMd5HashPropId
returns-in_err-values-in-CertSubjectNameMd5HashPropId c =
    let p = err_from_is_err_and c.from_residual.result c.from_residual.ensures.1 in
    rw (p.1, p.2) (list_refused _ _ _ (λ vs of. hashes_of _ _ vs c.in-CertSubjectNameMd5HashPropId.is of)
    c.in_err-values-in-CertSubjectNameMd5HashPropId.ensures)

pub returns-in_ok-values-in-CertSubjectNameMd5HashPropId : goal.returns-in_ok-values-in-CertSubjectNameMd5HashPropId
returns-in_ok-values-in-CertSubjectNameMd5HashPropId c = (
  sym c.in-CertSubjectNameMd5HashPropId.is,
  printed_list octet_string 0x31 _ c.in_ok-values-in-CertSubjectNameMd5HashPropId.values c.in_ok-values-in-CertSubjectNameMd5HashPropId.ensures,
)

pub returns-in_err-values-in-CertDisallowedFileTimePropId : goal.returns-in_err-values-in-CertDisallowedFileTimePropId
returns-in_err-values-in-CertDisallowedFileTimePropId c =
    let p = err_from_is_err_and c.from_residual-in_err-values-in-CertDisallowedFileTimePropId.result
    c.from_residual-in_err-values-in-CertDisallowedFileTimePropId.ensures.1 in
    rw (p.1, p.2) (list_refused _ _ _ (λ vs of. times_of _ _ vs c.in-CertDisallowedFileTimePropId.is of)
    c.in_err-values-in-CertDisallowedFileTimePropId.ensures)

pub returns-in_ok-values-in-CertDisallowedFileTimePropId : goal.returns-in_ok-values-in-CertDisallowedFileTimePropId
returns-in_ok-values-in-CertDisallowedFileTimePropId c = (
  sym c.in-CertDisallowedFileTimePropId.is,
  printed_list octet_string 0x31 _ c.in_ok-values-in-CertDisallowedFileTimePropId.values c.in_ok-values-in-CertDisallowedFileTimePropId.ensures,
)

pub returns-in_err-values-in-UnknownReservedPropId126 : goal.returns-in_err-values-in-UnknownReservedPropId126
returns-in_err-values-in-UnknownReservedPropId126 c =
    let p = err_from_is_err_and c.from_residual-in_err-values-in-UnknownReservedPropId126.result
    c.from_residual-in_err-values-in-UnknownReservedPropId126.ensures.1 in
    rw (p.1, p.2) (list_refused _ _ _ (λ vs of. starts_of _ _ vs c.in-UnknownReservedPropId126.is of) c.in_err-values-in-UnknownReservedPropId126.ensures)

pub returns-in_ok-values-in-UnknownReservedPropId126 : goal.returns-in_ok-values-in-UnknownReservedPropId126
returns-in_ok-values-in-UnknownReservedPropId126 c = (
  sym c.in-UnknownReservedPropId126.is,
  printed_list octet_string 0x31 _ c.in_ok-values-in-UnknownReservedPropId126.values c.in_ok-values-in-UnknownReservedPropId126.ensures,
)

pub returns-in_err-values-in-UnknownReservedPropId127 : goal.returns-in_err-values-in-UnknownReservedPropId127
returns-in_err-values-in-UnknownReservedPropId127 c =
    let p = err_from_is_err_and c.from_residual-in_err-values-in-UnknownReservedPropId127.result
    c.from_residual-in_err-values-in-UnknownReservedPropId127.ensures.1 in
    rw (p.1, p.2) (list_refused _ _ _ (λ vs of. purposes_of _ _ vs c.in-UnknownReservedPropId127.is of) c.in_err-values-in-UnknownReservedPropId127.ensures)

pub returns-in_ok-values-in-UnknownReservedPropId127 : goal.returns-in_ok-values-in-UnknownReservedPropId127
returns-in_ok-values-in-UnknownReservedPropId127 c = (
  sym c.in-UnknownReservedPropId127.is,
  printed_list held_purposes 0x31 _ c.in_ok-values-in-UnknownReservedPropId127.values c.in_ok-values-in-UnknownReservedPropId127.ensures,
)

pub returns-in_err-read_list-in-Other : goal.returns-in_err-read_list-in-Other
returns-in_err-read_list-in-Other c =
    let p = err_from_is_err_and c.from_residual-in_err-read_list-in-Other.result c.from_residual-in_err-read_list-in-Other.ensures.1 in
    rw (p.1, p.2) (list_refused _ _ _ (λ vs of. others_of _ _ vs c.in-Other.is of) c.in_err-read_list-in-Other.ensures)

pub returns-in_ok-read_list-in-Other : goal.returns-in_ok-read_list-in-Other
returns-in_ok-read_list-in-Other c = (sym c.in-Other.is, printed_list kept_element 0x31 _ c.in_ok-read_list-in-Other.field-0 c.in_ok-read_list-in-Other.ensures)
