use Rattle.x509_types.proofs.Tails.{behind_version, six_gone, behind_issuer, behind_subject, no_bad_tagging, no_more}
use Rattle.x509_types.proofs.certificate.tbs_fields.TbsFields.of.Goals as goal

pub returns-in_err-extensions : goal.returns-in_err-extensions
returns-in_err-extensions c =
    rw c.from_residual-in_err-extensions.ensures (λ f is.
    let behind = behind_version _ _ _ _ f c.in_ok-kids.ensures c.in_ok-version.ensures is in
    let tail = six_gone _ _ _ _ _ _ _ _ _ _ _ _ _ _ _ _ _ _ _ _ c.in_ok-next.ensures
    c.in_ok-signature.ensures c.in_ok-issuer.ensures c.in_ok-validity.ensures
    c.in_ok-subject.ensures c.in_ok-subject_public_key_info.ensures behind in
    let others = behind_issuer _ _ _ _ f c.next_leaf-issuer_unique_id.ensures tail in
    no_bad_tagging _ f.extensions c.in_err-extensions.ensures.1 (behind_subject _ _ _ _ f c.next_leaf-subject_unique_id.ensures others))

pub returns-in_err-end : goal.returns-in_err-end
returns-in_err-end c =
    rw c.from_residual-in_err-end.ensures (λ f is.
    let behind = behind_version _ _ _ _ f c.in_ok-kids.ensures c.in_ok-version.ensures is in
    let tail = six_gone _ _ _ _ _ _ _ _ _ _ _ _ _ _ _ _ _ _ _ _ c.in_ok-next.ensures
    c.in_ok-signature.ensures c.in_ok-issuer.ensures c.in_ok-validity.ensures
    c.in_ok-subject.ensures c.in_ok-subject_public_key_info.ensures behind in
    let others = behind_issuer _ _ _ _ f c.next_leaf-issuer_unique_id.ensures tail in
    no_more _ _ _ f.extensions c.in_ok-extensions.ensures c.in_err-end.ensures (behind_subject _ _ _ _ f c.next_leaf-subject_unique_id.ensures others))
