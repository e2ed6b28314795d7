use Rattle.std.proofs.Common.{refl}
use Rattle.std.proofs.lemmas.Bool.{false≢true}
use Rattle.x509_core.proofs.KeyIds.{had_once, same_keys}
use Rattle.trust_anchors.proofs.link.keys_agree.Goals as goal

pub returns-in_default : goal.returns-in_default
returns-in_default c = (λ test key named. absurd (c.in_default.ensures key named), λ agree. refl)

pub returns-in-Some-subject_key_identifier : goal.returns-in-Some-subject_key_identifier
returns-in-Some-subject_key_identifier c =
    let named = c.in-Some.ensures in
    let had = c.in-Some-subject_key_identifier.ensures in (
      λ test. same_keys _ _ _ _ named had (c.is_same.ensures.0 test),
      λ agree. c.is_same.ensures.1 (had_once _ _ _ (agree _ named) had),
    )

pub returns-in-None : goal.returns-in-None
returns-in-None c = (λ test. absurd (false≢true test), λ agree. absurd (c.in-None.ensures _ (agree _ c.in-Some.ensures)))
