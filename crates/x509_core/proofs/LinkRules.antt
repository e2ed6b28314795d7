-- One link of a chain, rule by rule.
use Rattle.std.proofs.Common.{◌≡◌, ◌≢◌, ◌<◌, ◌≤◌, ℕ, true, Result, Ok, Err, MatchResult, inl, inr, refl, subst, arith}
use Rattle.der_core.specs.Rules.{IsMet}
use Rattle.key_core.specs.Verifying.{Judge}
use Rattle.x509_types.specs.CertificateElements.{CertificateElements}
use Rattle.x509_types.specs.ExtensionParts.{HasCa, HasPathLength}
use Rattle.x509_core.specs.OwnedCertificate.{KeptCertificate}
use Rattle.x509_core.specs.Link.{IsDeepEnough, IsCountFor, IsLink, IsSignedBy, IsNoAuthority, IsTooDeep, IsOutside, link_rules, link_signature_rules}
use Rattle.x509_core.specs.Parent.{AgreeByKeyAndName, RefusesParent}
use Rattle.x509_core.specs.Rules.{Breaks, RefusesCertBy}
use Rattle.x509_core.specs.Window.{IsWithinWindow}
use Rattle.x509_core.specs.declared.error.CertError.{CertError}
use Rattle.x509_core.specs.declared.error.CertError.TheVariants as errors
use Rattle.x509_core.specs.declared.window.Window.{Window}
use Rattle.x509_core.proofs.Depths.{path_length_once}
use Rattle.x509_core.proofs.Links.{parent_is_met}
use Rattle.x509_core.proofs.Validity.{valid_is_met}

-- ---- the path length

pub deep_enough : (f g : CertificateElements) (count number pathlen : ℕ) → f ≡ g → HasPathLength f pathlen → pathlen < 256 → IsCountFor number count
    → number ≤ pathlen → IsDeepEnough count g
deep_enough f g count number pathlen same has small stands fits = λ limit there.
    let one : pathlen ≡ limit = path_length_once g pathlen limit (subst (λ (x : CertificateElements). HasPathLength x pathlen) same has) there in
    omega (arith, one, small, stands, fits)

pub deeper : (count number pathlen : ℕ) → pathlen < 256 → IsCountFor number count → pathlen < number → pathlen < count
deeper count number pathlen small stands more = omega (arith, small, stands, more)

-- ---- rules that are met

pub authority_is_met : (parent : KeptCertificate) → HasCa parent.elements true → IsMet (IsNoAuthority parent)
authority_is_met parent ca = λ e broken. broken.none ca

pub depth_is_met : (count : ℕ) (parent : KeptCertificate) → IsDeepEnough count parent.elements → IsMet (IsTooDeep count parent)
depth_is_met count parent deep = λ e broken. omega (arith, deep broken.limit broken.limited, broken.deeper)

pub window_is_met : (w : Window) (kept : KeptCertificate) → IsWithinWindow w kept.elements → IsMet (IsOutside w kept)
window_is_met w kept valid = λ e broken. valid_is_met w kept.elements broken.cause valid broken.broken

-- ---- which rule is broken first

module _ (judge : Judge) (w : Window) (count : ℕ) (parent child : KeptCertificate) where
  pub no_authority : (e : CertError) → Breaks (IsNoAuthority parent) e → RefusesCertBy (link_rules judge w count parent child) e
  no_authority e (inl broken) = inl (inl broken)
  no_authority e (inr memory) = inr memory

  pub too_deep : (e : CertError) → HasCa parent.elements true → Breaks (IsTooDeep count parent) e → RefusesCertBy (link_rules judge w count parent child) e
  too_deep e ca (inl broken) = inl (inr (authority_is_met parent ca, inl broken))
  too_deep e ca (inr memory) = inr memory

  pub outside : (e : CertError) → HasCa parent.elements true → IsDeepEnough count parent.elements → Breaks (IsOutside w parent) e
      → RefusesCertBy (link_rules judge w count parent child) e
  outside e ca deep (inl broken) = inl (inr (authority_is_met parent ca, inr (depth_is_met count parent deep, inl broken)))
  outside e ca deep (inr memory) = inr memory

  no_parent : (e : CertError) → HasCa parent.elements true → IsDeepEnough count parent.elements → IsWithinWindow w parent.elements
      → RefusesParent parent child e → e ≢ errors.Memory → RefusesCertBy (link_rules judge w count parent child) e
  no_parent e ca deep valid refused returned =
      inl (inr (authority_is_met parent ca, inr (depth_is_met count parent deep, inr (window_is_met w parent valid, inl (refused, returned)))))

  pub parent_refused : (e : CertError) → HasCa parent.elements true → IsDeepEnough count parent.elements → IsWithinWindow w parent.elements
      → RefusesParent parent child e → RefusesCertBy (link_rules judge w count parent child) e
  parent_refused (errors.InvalidCertificate id source) ca deep valid refused =
      no_parent (errors.InvalidCertificate id source) ca deep valid refused (λ e. absurd cc)
  parent_refused errors.Memory ca deep valid refused = inr refl
  parent_refused e ca deep valid refused = absurd refused

  pub signed_or_not : {X : Type 0} (r : Result X CertError) → HasCa parent.elements true → IsDeepEnough count parent.elements → IsWithinWindow w parent.elements
      → AgreeByKeyAndName parent.elements child.elements
      → MatchResult r (λ _. IsSignedBy judge parent.elements child.elements) (RefusesCertBy (link_signature_rules judge parent child))
      → MatchResult r (λ _. IsLink judge w count parent.elements child.elements) (RefusesCertBy (link_rules judge w count parent child))
  signed_or_not (Ok v) ca deep valid agreed signed = record { authority = ca; depth = deep; valid = valid; agreed = agreed; signed = signed }
  signed_or_not (Err e) ca deep valid agreed (inl broken) =
      inl (inr
      (authority_is_met parent ca, inr (depth_is_met count parent deep, inr (window_is_met w parent valid, inr (parent_is_met parent child agreed, broken)))))
  signed_or_not (Err e) ca deep valid agreed (inr memory) = inr memory
