use Rattle.std.proofs.Common.{◌∷◌, List, ℕ, map, refl, sym, ap, arith}
use Rattle.std.proofs.lemmas.Result.{IfErr-weaker, on_ok_weaker, err_from_is_err_and}
use Rattle.program_frame.proofs.WordLists.{behind, words_are}
use Rattle.trust_anchors.proofs.ReadFiles.{anchors_behind, first_unread, last_anchor, later_unread, no_words}
use Rattle.trust_anchors.proofs.reading.+read_anchors.Goals as goal

pub returns-in_err-certificate-clause-unread : goal.returns-in_err-certificate-clause-unread
returns-in_err-certificate-clause-unread t c =
    let p = err_from_is_err_and c.from_residual.result c.from_residual.ensures.1 in
    let others = map (λ octets. octets.items) c.args.others.now in
    rw (p.1, p.2) (first_unread c.args.first.now others (c.args.first.now ∷ others) c.in_err-certificate.field-0.0 refl c.in_err-certificate.ensures.unread)

pub returns-in_default-clause-read : goal.returns-in_default-clause-read
returns-in_default-clause-read t c =
    last_anchor c.args.first.now (c.args.first.now ∷ map (λ octets. octets.items) c.args.others.now)
    c.in_ok-certificate.certificate c.args.anchors.now c.add_anchor.new.anchors
    (ap (λ (xs : List (List ℕ)). c.args.first.now ∷ xs) (no_words (λ octets. octets.items) c.args.others.now (omega (arith, c.in_default.len_below))))
    c.in_ok-certificate.ensures.read c.in_ok-add_anchor.ensures.added

pub returns-clause-read : goal.returns-clause-read
returns-clause-read t c =
    let are = words_are (λ octets. octets.items) c.args.others.now c.next-item.result c.deref.result.now c.in-len1-up.len_at_least c.next-item.is
    (sym c.deref.ensures.value) in
    on_ok_weaker c.read_anchors.result (λ h. anchors_behind c.args.first.now (c.deref.result.now ∷ map (λ octets. octets.items) (behind c.args.others.now))
    (c.args.first.now ∷ map (λ octets. octets.items) c.args.others.now)
    c.in_ok-certificate.certificate c.args.anchors.now c.add_anchor.new.anchors c.read_anchors.new.anchors
    (ap (λ (xs : List (List ℕ)). c.args.first.now ∷ xs) are) c.in_ok-certificate.ensures.read c.in_ok-add_anchor.ensures.added h) c.read_anchors.ensures.read

pub returns-clause-unread : goal.returns-clause-unread
returns-clause-unread t c =
    let are = words_are (λ octets. octets.items) c.args.others.now c.next-item.result c.deref.result.now c.in-len1-up.len_at_least c.next-item.is
    (sym c.deref.ensures.value) in
    IfErr-weaker c.read_anchors.result _ _ (λ e h. later_unread c.args.first.now (c.deref.result.now ∷ map (λ octets. octets.items) (behind c.args.others.now))
    (c.args.first.now ∷ map (λ octets. octets.items) c.args.others.now) e
    (ap (λ (xs : List (List ℕ)). c.args.first.now ∷ xs) are) h) c.read_anchors.ensures.unread
