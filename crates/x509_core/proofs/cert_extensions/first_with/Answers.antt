use Rattle.std.proofs.Common.{sym, ap, ◌∙◌}
use Rattle.asn1_types.specs.Values.{identifier_contents}
use Rattle.x509_core.proofs.FirstOfIdentifier.{here, later, none_later, unlike}
use Rattle.x509_core.proofs.cert_extensions.first_with.Goals as goal

pub returns-then-is_same : goal.returns-then-is_same
returns-then-is_same c =
    c.loop-extension.invariant.first _
    (here _ _ _ _ c.in-Some.ensures.cases.0 (ap identifier_contents (sym c.extn_id.ensures) ∙ sym c.as_bytes.ensures ∙ c.is_same.ensures.0 c.if-is_same.true))

pub loop-extension-preserved : goal.loop-extension-preserved
loop-extension-preserved c =
    let other = unlike _ _ _ _ (ap identifier_contents (sym c.extn_id.ensures) ∙ sym c.as_bytes.ensures) c.if-is_same.false c.is_same.ensures in
    record {
      first = λ e f. c.loop-extension.invariant.first e (later _ _ _ _ e c.in-Some.ensures.cases.0 other f);
      none = λ n. c.loop-extension.invariant.none (none_later _ _ _ _ c.in-Some.ensures.cases.0 other n);
    }
