use Rattle.std.proofs.Common.{◌+◌, map, arith}
use Rattle.key_core.specs.Keys.{info_of}
use Rattle.key_core.specs.PrivatePkcs1.{IsPrivatePkcs1}
use Rattle.key_core.specs.declared.private_key.PrivateKey.{PrivateKey}
use Rattle.ca_register.specs.Owned.{line_held}
use Rattle.sig_core.specs.DemoScheme.{demo_verdict}
use Rattle.ca_register.specs.LineKeys.{AreLineKeys, key_secret}
use Rattle.ca_register.proofs.Fillings.{child_filled, child_unfilled, line_at, ok_holds}
use Rattle.ca_register.proofs.Kept.{kept_all}
use Rattle.ca_register.proofs.filling.issue_child.Goals as goal

pub returns-clause-filled : goal.returns-clause-filled
returns-clause-filled c =
    let held = c.index-lines-place.result in
    let lines = map line_held c.args.lines.now in
    let register = c.args.register.now in
    let at = line_at c.args.lines.now c.args.place held c.requires.within c.index-lines-place.is in
    child_filled lines c.args.place (line_held held) at c.requires.each c.args.issuer (c.requires.by (line_held held) at) _ (c.args.place + 1)
    (omega (arith, c.requires.few, c.requires.within)) (omega arith)
    (omega (arith, c.requires.few, c.requires.within)) c.grant_of.result c.grant_of.ensures c.in_ok-name.name c.in_ok-name.ensures c.in_ok-key.key
    (ok_holds (λ own. (private : PrivateKey) × AreLineKeys held.key private (info_of own)) _ c.public_key_of.result c.in_ok-key.key c.in_ok-key.ensures
    c.public_key_of.ensures)
    c.signer_of.result c.signer_of.ensures c.in_ok-signer.signer
    (ok_holds (IsPrivatePkcs1 (key_secret c.signer_of.result)) _ c.private_key_of.result c.in_ok-signer.signer c.in_ok-signer.ensures c.private_key_of.ensures)
    register.entries.items register.certificates.items (kept_all demo_verdict register.entries.items register.certificates.items register.kept)
    c.requires.filled c.child.result _ _ c.child.ensures.answer c.child.ensures.added

pub returns-clause-refused : goal.returns-clause-refused
returns-clause-refused c =
    let held = c.index-lines-place.result in
    let lines = map line_held c.args.lines.now in
    let register = c.args.register.now in
    let at = line_at c.args.lines.now c.args.place held c.requires.within c.index-lines-place.is in
    child_unfilled lines c.args.place (line_held held) at c.requires.each c.args.issuer (c.requires.by (line_held held) at) _ (c.args.place + 1)
    (omega (arith, c.requires.few, c.requires.within)) (omega arith)
    (omega (arith, c.requires.few, c.requires.within)) c.grant_of.result c.grant_of.ensures c.in_ok-name.name c.in_ok-name.ensures c.in_ok-key.key
    (ok_holds (λ own. (private : PrivateKey) × AreLineKeys held.key private (info_of own)) _ c.public_key_of.result c.in_ok-key.key c.in_ok-key.ensures
    c.public_key_of.ensures)
    c.signer_of.result c.signer_of.ensures c.in_ok-signer.signer
    (ok_holds (IsPrivatePkcs1 (key_secret c.signer_of.result)) _ c.private_key_of.result c.in_ok-signer.signer c.in_ok-signer.ensures c.private_key_of.ensures)
    register.entries.items register.certificates.items (kept_all demo_verdict register.entries.items register.certificates.items register.kept)
    c.requires.filled c.child.result c.child.ensures.answer c.child.ensures.paired
