use Rattle.std.proofs.Common.{◌≡◌, rules, true}
use Rattle.x509_types.specs.CertificateView.{view_elements}
use Rattle.trust_anchors.proofs.UnsignedLinks.{holds_by}
use Rattle.trust_anchors.proofs.link.is_unsigned_link.Goals as goal

pub returns-then-keys_agree : goal.returns-then-keys_agree
returns-then-keys_agree c =
    let authority : c.is_authority.result ≡ true = search rules in
    let deep : c.is_deep_enough.result ≡ true = search rules in
    let valid : c.is_valid.result ≡ true = search rules in
    holds_by c.args.window.now c.args.number (view_elements c.args.parent) (view_elements c.args.child) c.names_agree.result
    (c.is_authority.ensures.0 authority) (c.is_deep_enough.ensures.0 deep) (c.is_valid.ensures.0 valid) (c.keys_agree.ensures.0 c.if-keys_agree.true)
    c.names_agree.ensures
