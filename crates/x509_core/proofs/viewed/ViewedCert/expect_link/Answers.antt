use Rattle.std.proofs.lemmas.Result.{err_from_is_err_and}
use Rattle.x509_core.proofs.LinkRules.{outside, parent_refused, signed_or_not}
use Rattle.x509_core.proofs.viewed.ViewedCert.expect_link.Goals as goal

pub returns-in_err-expect_valid : goal.returns-in_err-expect_valid
returns-in_err-expect_valid g c = λ count stands.
    let p = err_from_is_err_and c.from_residual-in_err-expect_valid.result c.from_residual-in_err-expect_valid.ensures.1 in
    rw (p.1, p.2)
    (outside (g.S.Scheme.judge c.args.scheme.now) c.args.window.now count c.args.self.now.cert.now c.args.child.now.cert.now c.in_err-expect_valid.field-0.0
    c.in_ok-expect_authority.ensures (c.in_ok-expect_deep_enough.ensures count stands) c.in_err-expect_valid.ensures.answer)

pub returns-in_err-is_parent_of : goal.returns-in_err-is_parent_of
returns-in_err-is_parent_of g c = λ count stands.
    let p = err_from_is_err_and c.from_residual-in_err-is_parent_of.result c.from_residual-in_err-is_parent_of.ensures.1 in
    rw (p.1, p.2) (parent_refused (g.S.Scheme.judge c.args.scheme.now)
    c.args.window.now count c.args.self.now.cert.now c.args.child.now.cert.now c.in_err-is_parent_of.field-0.0
    c.in_ok-expect_authority.ensures (c.in_ok-expect_deep_enough.ensures count stands) c.in_ok-expect_valid.ensures.answer c.in_err-is_parent_of.ensures.answer)

pub returns : goal.returns
returns g c = λ count stands.
    signed_or_not (g.S.Scheme.judge c.args.scheme.now) c.args.window.now count c.args.self.now.cert.now c.args.child.now.cert.now c.expect_signed_by.result
    c.in_ok-expect_authority.ensures (c.in_ok-expect_deep_enough.ensures count stands)
    c.in_ok-expect_valid.ensures.answer c.in_ok-is_parent_of.ensures.answer c.expect_signed_by.ensures
