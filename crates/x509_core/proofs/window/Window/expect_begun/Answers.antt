use Rattle.std.proofs.Common.{◌≡◌, Some, refl, sym, ◌∙◌, rules}
use Rattle.std.proofs.lemmas.Bool.{false≢true}
use Rattle.x509_types.specs.CertificateView.{view_elements}
use Rattle.x509_core.specs.Window.{latest}
use Rattle.x509_core.proofs.Validity.{time_at, begun_by}
use Rattle.x509_core.proofs.window.Window.expect_begun.Goals as goal

pub returns-then-is_earlier : goal.returns-then-is_earlier
returns-then-is_earlier c =
    let last : latest c.args.self.now.date ≡ Some c.in-Some.now = search rules in
    record {
      not_before = c.from-not_before.result;
      now = c.in-Some.now;
      asked = search rules;
      begins = time_at _ _ _ c.not_before.ensures c.from-not_before.ensures;
      last = last;
      early = c.is_earlier.ensures.0 (search rules);
      returned = refl;
    }

pub returns : goal.returns
returns c =
    let last : latest c.args.self.now.date ≡ Some c.in-Some.now = search rules in
    begun_by c.args.self.now (view_elements c.args.view) c.from-not_before.result c.in-Some.now
    (time_at _ _ _ c.not_before.ensures c.from-not_before.ensures) last
    (λ early. false≢true (sym c.if-is_earlier.false ∙ c.is_earlier.ensures.1 early))
