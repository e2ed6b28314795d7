use Rattle.std.proofs.Common.{sym, ap, subst, ◌∙◌}
use Rattle.key_types.specs.declared.key_info.SubjectPublicKeyInfo.{SubjectPublicKeyInfo}
use Rattle.key_core.specs.Verifying.{IsOnCurve}
use Rattle.key_core.proofs.signature_algorithm.verifying.point_of.Goals as goal

pub returns : goal.returns
returns c =
    let paired = c.in_ok-alg.ensures in (
      paired.0,
      paired.1,
      paired.2,
      record {
        bits = c.in-Ec.bits;
        is = ap (λ (i : SubjectPublicKeyInfo). i.subject_public_key) (sym c.as_spki-info.ensures) ∙ c.in-Ec.is;
        on = subst (λ (i : SubjectPublicKeyInfo). IsOnCurve i paired.0) c.as_spki-info.ensures paired.3;
        payload = c.payload_view.ensures;
      },
    )
