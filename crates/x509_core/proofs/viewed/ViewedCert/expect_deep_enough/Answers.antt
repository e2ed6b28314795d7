use Rattle.std.proofs.Common.{◌<◌, ◌≤◌, arith, rules, sym, subst}
use Rattle.x509_types.specs.CertificateElements.{CertificateElements}
use Rattle.x509_types.specs.ExtensionParts.{HasPathLength}
use Rattle.x509_core.proofs.LinkRules.{deep_enough}
use Rattle.x509_core.proofs.viewed.ViewedCert.expect_deep_enough.Goals as goal

pub returns-in_default : goal.returns-in_default
returns-in_default c = λ count stands limit has.
    absurd (c.in_default.ensures limit (subst (λ (f : CertificateElements). HasPathLength f limit) (sym c.args.self.now.same) has))

pub returns-then-number-from : goal.returns-then-number-from
returns-then-number-from c = λ count stands.
    let small : c.in-Some.pathlen < 256 = search (rules, arith) in
    let fits : c.args.number ≤ c.in-Some.pathlen = search (rules, arith) in
    deep_enough _ _ count c.args.number c.in-Some.pathlen c.args.self.now.same c.in-Some.ensures small stands fits
