use Rattle.std.proofs.lemmas.Result.{err_from_is_err_and}
use Rattle.der_core.specs.Facts.Lists.{list_refused}
use Rattle.x509_types.proofs.Valued.{types_of, digests_of, requests_of, kept_of}
use Rattle.x509_types.proofs.attribute.values.AttributeValues.read_at.Goals as goal

pub returns-in_err-read_list-in-ContentType : goal.returns-in_err-read_list-in-ContentType
returns-in_err-read_list-in-ContentType c =
    let p = err_from_is_err_and c.from_residual.result c.from_residual.ensures.1 in
    rw (p.1, p.2) (list_refused _ _ _ (λ vs of. types_of _ _ vs c.in-ContentType.is of) c.in_err-read_list-in-ContentType.ensures)

pub returns-in_err-read_list-in-MessageDigest : goal.returns-in_err-read_list-in-MessageDigest
returns-in_err-read_list-in-MessageDigest c =
    let p = err_from_is_err_and c.from_residual-in_err-read_list-in-MessageDigest.result c.from_residual-in_err-read_list-in-MessageDigest.ensures.1 in
    rw (p.1, p.2) (list_refused _ _ _ (λ vs of. digests_of _ _ vs c.in-MessageDigest.is of) c.in_err-read_list-in-MessageDigest.ensures)

pub returns-in_err-read_list-in-ExtensionRequest : goal.returns-in_err-read_list-in-ExtensionRequest
returns-in_err-read_list-in-ExtensionRequest c =
    let p = err_from_is_err_and c.from_residual-in_err-read_list-in-ExtensionRequest.result c.from_residual-in_err-read_list-in-ExtensionRequest.ensures.1 in
    rw (p.1, p.2) (list_refused _ _ _ (λ vs of. requests_of _ _ vs c.in-ExtensionRequest.is of) c.in_err-read_list-in-ExtensionRequest.ensures)

pub returns-in_err-read_list-in-Other : goal.returns-in_err-read_list-in-Other
returns-in_err-read_list-in-Other c =
    let p = err_from_is_err_and c.from_residual-in_err-read_list-in-Other.result c.from_residual-in_err-read_list-in-Other.ensures.1 in
    rw (p.1, p.2) (list_refused _ _ _ (λ vs of. kept_of _ _ vs c.in-Other.is of) c.in_err-read_list-in-Other.ensures)
