use Rattle.std.proofs.Common.{map, sym}
use Rattle.std.proofs.lemmas.Result.{IfErr-weaker, on_ok_weaker, err_from_is_err_and}
use Rattle.program_frame.proofs.WordLists.{behind, words_are}
use Rattle.trust_anchors.proofs.ReadFiles.{first_unread, later_unread, read_behind}
use Rattle.trust_anchors.proofs.reading.+read_pool.Goals as goal

pub returns-in_err-certificate-clause-unread : goal.returns-in_err-certificate-clause-unread
returns-in_err-certificate-clause-unread t c =
    let p = err_from_is_err_and c.from_residual.result c.from_residual.ensures.1 in
    let are = words_are (λ octets. octets.items) c.args.octets.now c.first-item.result c.deref.result.now c.in-len1-up.len_at_least c.first-item.is
    (sym c.deref.ensures.value) in
    rw (p.1, p.2) (first_unread c.deref.result.now (map (λ octets. octets.items) (behind c.args.octets.now)) (map (λ octets. octets.items) c.args.octets.now)
    c.in_err-certificate.field-0.0 are c.in_err-certificate.ensures.unread)

pub returns-clause-read : goal.returns-clause-read
returns-clause-read t c =
    let are = words_are (λ octets. octets.items) c.args.octets.now c.first-item.result c.deref.result.now c.in-len1-up.len_at_least c.first-item.is
    (sym c.deref.ensures.value) in
    on_ok_weaker c.read_pool.result
    (λ h. read_behind c.deref.result.now (map (λ octets. octets.items) (behind c.args.octets.now)) (map (λ octets. octets.items) c.args.octets.now)
    c.in_ok-certificate.certificate c.args.pool.now.items c.push.new.self.items c.read_pool.new.pool.items are c.in_ok-certificate.ensures.read
    c.in_ok-push.ensures.items h) c.read_pool.ensures.read

pub returns-clause-unread : goal.returns-clause-unread
returns-clause-unread t c =
    let are = words_are (λ octets. octets.items) c.args.octets.now c.first-item.result c.deref.result.now c.in-len1-up.len_at_least c.first-item.is
    (sym c.deref.ensures.value) in
    IfErr-weaker c.read_pool.result _ _ (λ e h. later_unread c.deref.result.now (map (λ octets. octets.items) (behind c.args.octets.now))
    (map (λ octets. octets.items) c.args.octets.now) e are h) c.read_pool.ensures.unread
