use Rattle.std.proofs.Common.{◌≡◌, ◌↔◌, IsTrue, Bool, sym, ap, ◌∙◌}
use Rattle.std.specs.Prelude.{bytes_eq}
use Rattle.std.proofs.lemmas.Slice.Eq.{bytes_eq-Decides}
use Rattle.der_core.specs.Facts.Equality.{same_tests, same_whole, unlike}
use Rattle.key_types.specs.PublicKeyInfo.{key_octets}
use Rattle.key_types.specs.Facts.Keys.{keys_by_octets}
use Rattle.key_types.specs.declared.subject_key.SubjectKey.{SubjectKey}
use Rattle.key_types.specs.declared.subject_key.SubjectKey.TheVariants as keys
use Rattle.key_types.proofs.subject_key.SubjectKeyPartialEq.eq.Goals as goal

by_octets : (a b : SubjectKey) (t : Bool) → (IsTrue t ↔ (a ≡ b)) → t ≡ bytes_eq (key_octets a) (key_octets b)
by_octets a b t same =
    let decides = bytes_eq-Decides (key_octets a) (key_octets b) in
    same_tests t _ same (λ w. keys_by_octets a b (decides.0 w), λ e. decides.1 (ap key_octets e))

pub returns-in-Rsa-Rsa-clause-same : goal.returns-in-Rsa-Rsa-clause-same
returns-in-Rsa-Rsa-clause-same c = same_whole keys.Rsa (λ a b e. cc) _ _ _ _ _ c.in-Rsa-Rsa.is-0 c.in-Rsa-Rsa.is-1 c.eq.ensures.same

pub returns-in-Rsa-Rsa-clause-octets : goal.returns-in-Rsa-Rsa-clause-octets
returns-in-Rsa-Rsa-clause-octets c = by_octets _ _ _ (same_whole keys.Rsa (λ a b e. cc) _ _ _ _ _ c.in-Rsa-Rsa.is-0 c.in-Rsa-Rsa.is-1 c.eq.ensures.same)

pub returns-in-Ec-Ec-clause-same : goal.returns-in-Ec-Ec-clause-same
returns-in-Ec-Ec-clause-same c = same_whole keys.Ec (λ a b e. cc) _ _ _ _ _ c.in-Ec-Ec.is-0 c.in-Ec-Ec.is-1 c.eq-in-Ec-Ec.ensures.same

pub returns-in-Ec-Ec-clause-octets : goal.returns-in-Ec-Ec-clause-octets
returns-in-Ec-Ec-clause-octets c = by_octets _ _ _ (same_whole keys.Ec (λ a b e. cc) _ _ _ _ _ c.in-Ec-Ec.is-0 c.in-Ec-Ec.is-1 c.eq-in-Ec-Ec.ensures.same)

pub returns-in-Ed-Ed-clause-same : goal.returns-in-Ed-Ed-clause-same
returns-in-Ed-Ed-clause-same c = same_whole keys.Ed (λ a b e. cc) _ _ _ _ _ c.in-Ed-Ed.is-0 c.in-Ed-Ed.is-1 c.eq-in-Ed-Ed.ensures.same

pub returns-in-Ed-Ed-clause-octets : goal.returns-in-Ed-Ed-clause-octets
returns-in-Ed-Ed-clause-octets c = by_octets _ _ _ (same_whole keys.Ed (λ a b e. cc) _ _ _ _ _ c.in-Ed-Ed.is-0 c.in-Ed-Ed.is-1 c.eq-in-Ed-Ed.ensures.same)

pub returns-in-Mldsa-Mldsa-clause-same : goal.returns-in-Mldsa-Mldsa-clause-same
returns-in-Mldsa-Mldsa-clause-same c =
    same_whole keys.Mldsa (λ a b e. cc) _ _ _ _ _ c.in-Mldsa-Mldsa.is-0 c.in-Mldsa-Mldsa.is-1 c.eq-in-Mldsa-Mldsa.ensures.same

pub returns-in-Mldsa-Mldsa-clause-octets : goal.returns-in-Mldsa-Mldsa-clause-octets
returns-in-Mldsa-Mldsa-clause-octets c =
    by_octets _ _ _ (same_whole keys.Mldsa (λ a b e. cc) _ _ _ _ _ c.in-Mldsa-Mldsa.is-0 c.in-Mldsa-Mldsa.is-1 c.eq-in-Mldsa-Mldsa.ensures.same)

pub returns-in_default : goal.returns-in_default
returns-in_default c =
    let apart = unlike (λ e. c.in_default.not-Rsa-1 _ (sym e ∙ c.in_default.is-0)) in
    record { octets = by_octets _ _ _ apart; same = apart }

pub returns-in_default-2 : goal.returns-in_default-2
returns-in_default-2 c =
    let apart = unlike (λ e. c.in_default.not-Ec-1 _ (sym e ∙ c.in_default.is-0)) in
    record { octets = by_octets _ _ _ apart; same = apart }

pub returns-in_default-3 : goal.returns-in_default-3
returns-in_default-3 c =
    let apart = unlike (λ e. c.in_default.not-Ed-1 _ (sym e ∙ c.in_default.is-0)) in
    record { octets = by_octets _ _ _ apart; same = apart }

pub returns-in_default-4 : goal.returns-in_default-4
returns-in_default-4 c =
    let apart = unlike (λ e. c.in_default.not-Mldsa-1 _ (sym e ∙ c.in_default.is-0)) in
    record { octets = by_octets _ _ _ apart; same = apart }
