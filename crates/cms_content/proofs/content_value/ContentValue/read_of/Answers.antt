use Rattle.std.proofs.lemmas.Result.{err_from_is_err_and}
use Rattle.der_core.specs.Facts.Lists.{list_refused}
use Rattle.cms_content.proofs.Contents.{list_of, other_of}
use Rattle.cms_content.proofs.content_value.ContentValue.read_of.Goals as goal

pub returns-in_err-read_at-in-Other : goal.returns-in_err-read_at-in-Other
returns-in_err-read_at-in-Other c =
    let p = err_from_is_err_and c.from_residual-in_err-read_at-in-Other.result c.from_residual-in_err-read_at-in-Other.ensures.1 in
    rw (p.1, p.2) (list_refused _ _ _ (λ content of. other_of _ _ content c.in-Other.is of) c.in_err-read_at-in-Other.ensures)

pub returns-in_err-list-in-CertificateTrustList : goal.returns-in_err-list-in-CertificateTrustList
returns-in_err-list-in-CertificateTrustList c =
    let p = err_from_is_err_and c.from_residual-in_err-list-in-CertificateTrustList.result c.from_residual-in_err-list-in-CertificateTrustList.ensures.1 in
    rw (p.1, p.2) (list_refused _ _ _ (λ content of. list_of _ _ content c.in-CertificateTrustList.is of) c.in_err-list-in-CertificateTrustList.ensures)
