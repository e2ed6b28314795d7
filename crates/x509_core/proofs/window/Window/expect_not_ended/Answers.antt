use Rattle.std.proofs.Common.{◌≡◌, Some, refl, sym, ◌∙◌, rules}
use Rattle.std.proofs.lemmas.Bool.{false≢true}
use Rattle.x509_types.specs.CertificateView.{view_elements}
use Rattle.x509_core.specs.Window.{earliest}
use Rattle.x509_core.proofs.Validity.{time_at, lasts_by}
use Rattle.x509_core.proofs.window.Window.expect_not_ended.Goals as goal

pub returns-then-is_earlier : goal.returns-then-is_earlier
returns-then-is_earlier c =
    let first : earliest c.args.self.now.date ≡ Some c.in-Some.now = search rules in
    record {
      not_after = c.from-not_after.result;
      now = c.in-Some.now;
      ended = record {
        asked = search rules;
        ends = time_at _ _ _ c.not_after.ensures c.from-not_after.ensures;
        first = first;
        passed = c.is_earlier.ensures.0 (search rules);
      };
      returned = refl;
    }

pub returns : goal.returns
returns c =
    let first : earliest c.args.self.now.date ≡ Some c.in-Some.now = search rules in
    lasts_by c.args.self.now (view_elements c.args.view) c.from-not_after.result c.in-Some.now
    (time_at _ _ _ c.not_after.ensures c.from-not_after.ensures) first
    (λ early. false≢true (sym c.if-is_earlier.false ∙ c.is_earlier.ensures.1 early))
