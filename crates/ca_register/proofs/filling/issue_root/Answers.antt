use Rattle.std.proofs.Common.{◌+◌, map, arith}
use Rattle.key_core.specs.PrivatePkcs1.{IsPrivatePkcs1}
use Rattle.ca_register.specs.Owned.{line_held}
use Rattle.ca_register.specs.Lines.{IsLine}
use Rattle.sig_core.specs.DemoScheme.{demo_verdict}
use Rattle.ca_register.specs.LineKeys.{key_secret}
use Rattle.ca_register.proofs.Fillings.{holds_at, line_at, ok_holds, root_filled, root_unfilled}
use Rattle.ca_register.proofs.Kept.{kept_all}
use Rattle.ca_register.proofs.filling.issue_root.Goals as goal

pub returns-clause-filled : goal.returns-clause-filled
returns-clause-filled c =
    let held = c.index-lines-place.result in
    let lines = map line_held c.args.lines.now in
    let register = c.args.register.now in
    let at = line_at c.args.lines.now c.args.place held c.requires.within c.index-lines-place.is in
    root_filled lines c.args.place (line_held held) at (holds_at IsLine lines c.args.place (line_held held) c.requires.each at)
    (c.requires.root (line_held held) at) _ _ (omega (arith, c.requires.few, c.requires.within)) (omega arith)
    (omega (arith, c.requires.few, c.requires.within)) c.grant_of.result c.grant_of.ensures c.in_ok-name.name c.in_ok-name.ensures c.in_ok-key.key
    (ok_holds (IsPrivatePkcs1 (key_secret held.key)) _ c.private_key_of.result c.in_ok-key.key c.in_ok-key.ensures c.private_key_of.ensures)
    register.entries.items register.certificates.items (kept_all demo_verdict register.entries.items register.certificates.items register.kept)
    c.requires.filled c.root.result _ _ c.root.ensures.answer c.root.ensures.added

pub returns-clause-refused : goal.returns-clause-refused
returns-clause-refused c =
    let held = c.index-lines-place.result in
    let lines = map line_held c.args.lines.now in
    let register = c.args.register.now in
    let at = line_at c.args.lines.now c.args.place held c.requires.within c.index-lines-place.is in
    root_unfilled lines c.args.place (line_held held) at (holds_at IsLine lines c.args.place (line_held held) c.requires.each at)
    (c.requires.root (line_held held) at) _ (c.args.place + 1) (omega (arith, c.requires.few, c.requires.within)) (omega arith)
    (omega (arith, c.requires.few, c.requires.within)) c.grant_of.result c.grant_of.ensures c.in_ok-name.name c.in_ok-name.ensures c.in_ok-key.key
    (ok_holds (IsPrivatePkcs1 (key_secret held.key)) _ c.private_key_of.result c.in_ok-key.key c.in_ok-key.ensures c.private_key_of.ensures)
    register.entries.items register.certificates.items (kept_all demo_verdict register.entries.items register.certificates.items register.kept)
    c.requires.filled c.root.result c.root.ensures.answer
