-- How key identifiers of elements relate, where the elements are the same.
use Rattle.std.proofs.Common.{◌≡◌, ◌≢◌, ◌↔◌, IsTrue, Bool, refl, subst}
use Rattle.der_core.specs.Rules.{IsMet}
use Rattle.names_core.specs.declared.name.DirectoryName.{DirectoryName}
use Rattle.x509_types.specs.CertificateElements.{CertificateElements}
use Rattle.x509_core.specs.OwnedCertificate.{KeptCertificate}
use Rattle.x509_core.specs.Link.{IsNoParent}
use Rattle.x509_core.specs.Parent.{AgreeByName, AgreeByKeyAndName, LacksKey, DifferByKey, IsKeyLink, RefusesChain, RefusesLink, RefusesParent}
use Rattle.x509_core.specs.declared.error.CaChainError.{CaChainError}
use Rattle.x509_core.specs.declared.error.CaChainError.TheVariants as chain
use Rattle.x509_core.specs.declared.error.CertCause.{CertCause}
use Rattle.x509_core.specs.declared.error.CertCause.TheVariants as causes
use Rattle.x509_core.specs.declared.error.CertError.{CertError}
use Rattle.x509_core.specs.declared.error.CertError.TheVariants as errors
use Rattle.x509_core.specs.declared.key_link.KeyLink.{KeyLink}
use Rattle.std.specs.Prelude.{ℕ, List}
use Rattle.x509_core.proofs.KeyIds.{had_once}

pub same_link : (a b c d : CertificateElements) (l : KeyLink) → a ≡ c → b ≡ d → IsKeyLink a b l → IsKeyLink c d l
same_link a b c d l p q link = subst (λ (x : CertificateElements). IsKeyLink x d l) p (subst (λ (y : CertificateElements). IsKeyLink a y l) q link)

pub same_test : (a b c d : CertificateElements) (t : Bool) → a ≡ c → b ≡ d → (IsTrue t ↔ AgreeByName a b) → IsTrue t ↔ AgreeByName c d
same_test a b c d t p q test =
    subst (λ (x : CertificateElements). IsTrue t ↔ AgreeByName x d) p (subst (λ (y : CertificateElements). IsTrue t ↔ AgreeByName a y) q test)

-- a parent that lacks the key identifier isn't linked
pub lacking : (parent child : CertificateElements) → LacksKey parent child → AgreeByKeyAndName parent child → ⊥
lacking parent child lacks linked = lacks.none lacks.key (linked.key lacks.key lacks.named)

-- and neither is one that has another
pub differing : (parent child : CertificateElements) (expected actual : List ℕ) → DifferByKey parent child expected actual → AgreeByKeyAndName parent child → ⊥
differing parent child expected actual differ linked = differ.other (had_once parent expected actual (linked.key expected differ.named) differ.had)

-- ---- a parent by names and key identifiers isn't refused

not_chained : (parent child : KeptCertificate) (source : CaChainError) → AgreeByKeyAndName parent.elements child.elements → RefusesChain parent child source → ⊥
not_chained parent child (chain.TooDeep id limit) agreed refused = refused
not_chained parent child chain.NoRoot agreed refused = refused
not_chained parent child (chain.IssuerIsNotCA id) agreed refused = refused
not_chained parent child (chain.AuthorityKeyIdMismatch expected actual) agreed refused = differing parent.elements child.elements expected actual refused agreed
not_chained parent child (chain.IssuerNameMismatch expected actual) agreed refused = refused.name agreed.name

not_linked : (parent child : KeptCertificate) (id : DirectoryName) (cause : CertCause) → AgreeByKeyAndName parent.elements child.elements
    → RefusesLink parent child id cause → ⊥
not_linked parent child id (causes.InvalidChain source) agreed refused = not_chained parent child source agreed refused.1
not_linked parent child id (causes.ExtensionNotFound name) agreed refused = lacking parent.elements child.elements refused.2 agreed
not_linked parent child id cause agreed refused = absurd refused

pub parent_is_met : (parent child : KeptCertificate) → AgreeByKeyAndName parent.elements child.elements → IsMet (IsNoParent parent child)
parent_is_met parent child agreed = λ e broken. by e broken.0 broken.1
  where
    by : (e : CertError) → RefusesParent parent child e → e ≢ errors.Memory → ⊥
    by (errors.InvalidCertificate id source) refused returned = not_linked parent child id source agreed refused
    by errors.Memory refused returned = returned refl
    by e refused returned = absurd refused
