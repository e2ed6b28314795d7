-- There is one certificate of the signer with its issuer path, and one first certificate of the token
-- with the others.
use Rattle.std.proofs.Common.{◌≡◌, ℕ, List, length, refl, sym, subst}
use Rattle.cms_types.specs.SignedDataElements.{SignedDataElements}
use Rattle.der_core.specs.Optional.{members_of}
use Rattle.x509_types.specs.CertificateElements.{CertificateElements}
use Rattle.authenticode_core.specs.Excuses.{AreOthersThan, places_from}
use Rattle.authenticode_core.specs.IssuerWalk.{IsIssuerPath}
use Rattle.authenticode_core.specs.Indices.{StandsAt}
use Rattle.authenticode_core.specs.SigningRules.{IsBagOf}
use Rattle.authenticode_core.proofs.BagSteps.{one_bag}
use Rattle.authenticode_core.proofs.OneSigning.{same_bag, signer_once}
use Rattle.authenticode_core.proofs.Tokens.{token_once}
use Rattle.authenticode_core.proofs.WalkSteps.{one_path, same_certificate, same_others}
use Rattle.signature_questions.specs.Asked.{Chained, HasPath, HasStamp}

-- there is one such certificate, at most
abbrev pub IsUnique : Chained → Type 0
IsUnique Has =
    (a b : List CertificateElements) (c d : CertificateElements) (p r : List ℕ) → Has a c p → Has b d r → (a ≡ b) × (c ≡ d) × (p ≡ r)

pub path_unique : (f : SignedDataElements) → IsUnique (HasPath f)
path_unique f a b c d p r x y =
    let bags = same_bag f a b x.is_bag y.is_bag in
    let certificates = sym (signer_once f a b x.place y.place c d x.is_bag y.is_bag x.is_signer y.is_signer).1 in
    let own : IsIssuerPath a c r =
    subst (λ (child : CertificateElements). IsIssuerPath a child r) (sym certificates)
    (subst (λ (bag : List CertificateElements). IsIssuerPath bag d r) (sym bags) y.is_path) in
    (bags, certificates, one_path a c p r x.is_path own)

pub stamp_unique : (f : SignedDataElements) → IsUnique (HasStamp f)
stamp_unique f a b c d p r x y =
    let bags : a ≡ b =
    one_bag (members_of y.t.certificates) a b
    (subst (λ (t : SignedDataElements). IsBagOf t a) (token_once f x.t y.t x.has y.has) x.stamping.is_bag) y.stamping.is_bag in
    let certificates : c ≡ d =
    sym (same_certificate a 0 0 c d refl x.stands (subst (λ (bag : List CertificateElements). StandsAt bag 0 d) (sym bags) y.stands)) in
    let own : AreOthersThan a c r =
    subst (λ (child : CertificateElements). AreOthersThan a child r) (sym certificates)
    (subst (λ (bag : List CertificateElements). AreOthersThan bag d r) (sym bags) y.others) in
    (bags, certificates, same_others a c.tbs.subject (places_from 0 (length a)) p r x.others own)
