use Rattle.std.proofs.Common.{sym, subst}
use Rattle.std.proofs.lemmas.Bool.{iff_false}
use Rattle.x509_types.specs.Purposes.{HasPurposes}
use Rattle.authenticode_signature.proofs.WalkPurposes.{passed}
use Rattle.authenticode_signature.proofs.making.signer.asks_for_purposes.Goals as goal

pub loop-certificate-preserved : goal.loop-certificate-preserved
loop-certificate-preserved c =
    passed _ _ _ c.in-Some.certificate.now c.in-Some.ensures.steps
    (λ purposes. iff_false c.has_purposes.ensures c.if-has_purposes.false (subst HasPurposes (sym c.view.ensures.elements) purposes))
    c.loop-certificate.invariant
