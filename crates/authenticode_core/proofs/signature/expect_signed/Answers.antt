use Rattle.std.proofs.Common.{ap, ◌∙◌}
use Rattle.std.proofs.lemmas.Result.{err_from_is_err_and}
use Rattle.der_core.specs.Borrowed.{contents_octets}
use Rattle.authenticode_core.proofs.SigningOrder.{no_certificate, unknown, unaccepted, unbound, may_not, is_signed}
use Rattle.authenticode_core.proofs.signature.expect_signed.Goals as goal

pub returns-in_err-named : goal.returns-in_err-named
returns-in_err-named g c = λ d is.
    let p = err_from_is_err_and c.from_residual.result c.from_residual.ensures.1 in
    rw (p.1, p.2) (no_certificate (g.S.Scheme.judge c.args.scheme.now) _ d _ c.in_err-named.field-0.0 c.in_err-named.ensures)

pub returns-in_err-hash : goal.returns-in_err-hash
returns-in_err-hash g c = λ d is.
    let p = err_from_is_err_and c.from_residual-in_err-hash.result c.from_residual-in_err-hash.ensures.1 in
    rw (p.1, p.2) (unknown (g.S.Scheme.judge c.args.scheme.now) _ d _ _ _ c.in_err-hash.field-0.0 c.requires c.in_ok-named.ensures.has c.in_err-hash.ensures)

pub returns-in_err-expect_signature : goal.returns-in_err-expect_signature
returns-in_err-expect_signature g c = λ d is.
    let p = err_from_is_err_and c.from_residual-in_err-expect_signature.result c.from_residual-in_err-expect_signature.ensures.1 in
    rw (p.1, p.2) (unaccepted (g.S.Scheme.judge c.args.scheme.now) _ d _ _ _ _ c.in_err-expect_signature.field-0.0 c.requires c.in_ok-named.ensures.has
    c.in_ok-hash.ensures c.in_err-expect_signature.ensures)

pub returns-in_err-expect_message_digest : goal.returns-in_err-expect_message_digest
returns-in_err-expect_message_digest g c = λ d is.
    let p = err_from_is_err_and c.from_residual-in_err-expect_message_digest.result c.from_residual-in_err-expect_message_digest.ensures.1 in
    rw (p.1, p.2) (unbound (g.S.Scheme.judge c.args.scheme.now) _ d _ _ _ _ c.in_err-expect_message_digest.field-0.0 c.requires c.in_ok-named.ensures.has
    c.in_ok-hash.ensures c.in_ok-expect_signature.ensures
    (c.in_err-expect_message_digest.ensures d (c.args.content.is.1.3 ∙ ap contents_octets is)))

pub returns-in_err-expect_code_signing : goal.returns-in_err-expect_code_signing
returns-in_err-expect_code_signing g c = λ d is.
    let p = err_from_is_err_and c.from_residual-in_err-expect_code_signing.result c.from_residual-in_err-expect_code_signing.ensures.1 in
    let s = c.in_ok-named.ensures in
    rw (p.1, p.2) (may_not (g.S.Scheme.judge c.args.scheme.now) _ d _ _ _ _ c.in_err-expect_code_signing.field-0.0 c.requires s.has c.in_ok-hash.ensures
    c.in_ok-expect_signature.ensures
    (c.in_ok-expect_message_digest.ensures d (c.args.content.is.1.3 ∙ ap contents_octets is)) (c.in_err-expect_code_signing.ensures s.has.0 s.asks))

pub returns : goal.returns
returns g c = λ d is.
    let s = c.in_ok-named.ensures in
    is_signed (g.S.Scheme.judge c.args.scheme.now) _ d _ _ _ _ s.has c.in_ok-hash.ensures c.in_ok-expect_signature.ensures
    (c.in_ok-expect_message_digest.ensures d (c.args.content.is.1.3 ∙ ap contents_octets is)) (c.in_ok-expect_code_signing.ensures s.has.0 s.asks)
