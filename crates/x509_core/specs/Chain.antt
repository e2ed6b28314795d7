-- When certificates are a chain (RFC 5280 6.1), and which error is returned where they aren't.
use Rattle.std.specs.Prelude.{◌≡◌, ◌≢◌, ◌⊎◌, ⊤, List, [], ◌∷◌, ◌++◌, map, length, Option, Some, None, IsTrue}
use Rattle.std.specs.Borrow.{Bor}
use Rattle.std.specs.Iterator.{AlwaysYields, Yields, Drains}
use Rattle.der_core.specs.Rules.{Rule, IsFirstBroken}
use Rattle.key_core.specs.Verifying.{Judge}
use Rattle.x509_core.specs.CertType.{IsOfType}
use Rattle.x509_core.specs.OwnedCertificate.{KeptCertificate}
use Rattle.x509_core.specs.Link.{IsLink, IsOutside, link_rules}
use Rattle.x509_core.specs.Window.{IsWithinWindow}
use Rattle.x509_core.specs.declared.cert_type.CertType.TheVariants as types
use Rattle.x509_core.specs.declared.error.Arg.TheVariants as arguments
use Rattle.x509_core.specs.declared.error.CaChainError.TheVariants as chain_errors
use Rattle.x509_core.specs.declared.error.CertError.{CertError}
use Rattle.x509_core.specs.declared.error.CertError.TheVariants as errors
use Rattle.x509_core.specs.declared.validator.ChainChecks.{ChainChecks}
use Rattle.x509_core.specs.declared.viewed.ViewedCert.{ViewedCert}
use Rattle.x509_core.specs.declared.window.DateCheck.TheVariants as dates
use Rattle.x509_core.specs.declared.window.Window.{Window}

-- the last certificate of a path: the checked one if it has no parent
abbrev pub last_of : {A : Type 0} → A → List A → A
last_of checked [] = checked
last_of checked (parent ∷ parents) = last_of parent parents

-- Each parent is linked to the certificate before it, the checked one before the first, and
-- numbered by the parents before it.
abbrev pub IsLinkedChain : Judge → Window → KeptCertificate → List KeptCertificate → Type 0
IsLinkedChain judge w checked parents =
    (before after : List KeptCertificate) (parent : KeptCertificate)
    → parents ≡ before ++ parent ∷ after
    → IsLink judge w (length before) parent.elements (last_of checked before).elements

-- dates are checked
abbrev pub AsksForDate : Window → Type 0
AsksForDate w = IsTrue w.not_before ⊎ IsTrue w.not_after

-- a date is given if dates are checked
abbrev pub IsDated : ChainChecks → Type 0
IsDated checks = AsksForDate checks.window → checks.window.date ≢ dates.Absent

-- The last certificate is a root, if that is checked.
abbrev pub IsRooted : ChainChecks → KeptCertificate → List KeptCertificate → Type 0
IsRooted checks checked parents =
    IsTrue checks.root → IsOfType (last_of checked parents).elements types.Root

-- A chain is given, it is linked, and it ends in a root if that is checked.
pub record IsPath (judge : Judge) (checks : ChainChecks) (checked : KeptCertificate)
    (given : Option (List KeptCertificate)) : Type 0 where
  pub parents : List KeptCertificate
  pub is : given ≡ Some parents
  pub linked : IsLinkedChain judge checks.window checked parents
  pub rooted : IsRooted checks checked parents

-- The certificate is accepted with the given parents.
pub record IsAccepted (judge : Judge) (checks : ChainChecks) (checked : KeptCertificate)
    (given : Option (List KeptCertificate)) : Type 0 where
  pub dated : IsDated checks
  pub valid : IsWithinWindow checks.window checked.elements
  pub chained : IsTrue checks.chain → IsPath judge checks checked given

-- ---- rules, by what breaks them

-- dates are checked, and none is given
abbrev pub LacksDate : ChainChecks → Rule CertError
LacksDate checks e =
    AsksForDate checks.window × (checks.window.date ≡ dates.Absent)
    × (e ≡ errors.MissingBuilderArgument arguments.Now)

-- the chain is checked, and none is given
abbrev pub LacksChain : ChainChecks → Option (List KeptCertificate) → Rule CertError
LacksChain checks given e =
    IsTrue checks.chain × (given ≡ None) × (e ≡ errors.MissingBuilderArgument arguments.Chain)

-- A parent isn't linked to the certificate before it, and all before it are.
pub record IsFirstUnlinked (judge : Judge) (w : Window) (checked : KeptCertificate)
    (parents : List KeptCertificate) (e : CertError) : Type 0 where
  pub before : List KeptCertificate
  pub parent : KeptCertificate
  pub after : List KeptCertificate
  pub are : parents ≡ before ++ parent ∷ after
  pub linked : IsLinkedChain judge w checked before
  pub broken : IsFirstBroken (link_rules judge w (length before) parent (last_of checked before)) e

-- some parent isn't linked
pub record IsUnlinked (judge : Judge) (checks : ChainChecks) (checked : KeptCertificate)
    (given : Option (List KeptCertificate)) (e : CertError) : Type 0 where
  pub asked : IsTrue checks.chain
  pub parents : List KeptCertificate
  pub is : given ≡ Some parents
  pub first : IsFirstUnlinked judge checks.window checked parents e

-- the last certificate isn't a root
pub record LacksRoot (checks : ChainChecks) (checked : KeptCertificate)
    (given : Option (List KeptCertificate)) (e : CertError) : Type 0 where
  pub asked : IsTrue checks.chain
  pub parents : List KeptCertificate
  pub is : given ≡ Some parents
  pub unrooted : IsRooted checks checked parents → ⊥
  pub returned : e ≡ errors.InvalidChain chain_errors.NoRoot

-- The rules of a verification, in their order.
abbrev pub chain_rules : Judge → ChainChecks → KeptCertificate → Option (List KeptCertificate)
    → List (Rule CertError)
chain_rules judge checks checked given =
    LacksDate checks ∷ IsOutside checks.window checked ∷ LacksChain checks given ∷
    IsUnlinked judge checks checked given ∷ LacksRoot checks checked given ∷ []

-- ---- what an iterator yields

-- the borrowed certificates
abbrev pub lent : Bor KeptCertificate → KeptCertificate
lent certificate = certificate.now

-- the last parent so far, or the checked certificate
abbrev pub nearest : KeptCertificate → Option ViewedCert → KeptCertificate
nearest checked None = checked
nearest checked (Some parent) = parent.cert.now

-- if there is an iterator, it yields these and no others
abbrev pub YieldsParents : {S : Type 0} → (S → Option (Bor KeptCertificate) → S → Type 0) → Option S
    → Option (List KeptCertificate) → Type 0
YieldsParents steps None None = ⊤
YieldsParents steps None (Some parents) = ⊥
YieldsParents steps (Some chain) None = ⊥
YieldsParents steps (Some chain) (Some parents) = AlwaysYields steps lent chain parents

-- ---- what an iterator yielded in one call, if its runs may differ

-- if there is an iterator, it yielded these so far
abbrev pub GaveSoFar : {S : Type 0} → (S → Option (Bor KeptCertificate) → S → Type 0) → Option S
    → Option (List KeptCertificate) → Type 0
GaveSoFar steps None given = given ≡ None
GaveSoFar {S} steps (Some chain) given =
    (parents : List (Bor KeptCertificate)) × (rest : S) × Yields steps chain parents rest
    × (given ≡ Some (map lent parents))

-- There is an iterator, it was run to its end, and yielded these.
pub record IsWalked {S : Type 0} (steps : S → Option (Bor KeptCertificate) → S → Type 0)
    (chain : Option S) (given : Option (List KeptCertificate)) : Type 0 where
  pub iterator : S
  pub parents : List (Bor KeptCertificate)
  pub is : chain ≡ Some iterator
  pub ended : Drains steps iterator parents
  pub are : given ≡ Some (map lent parents)

-- The certificate is accepted with all that the iterator yielded. If the chain isn't checked,
-- nothing is said about the iterator.
pub record WasAccepted {S : Type 0} (judge : Judge)
    (steps : S → Option (Bor KeptCertificate) → S → Type 0) (checks : ChainChecks)
    (checked : KeptCertificate) (chain : Option S) : Type 0 where
  pub given : Option (List KeptCertificate)
  pub walked : IsTrue checks.chain → IsWalked steps chain given
  pub accepted : IsAccepted judge checks checked given

-- The error reports the first broken rule for what the iterator yielded so far. A missing root is
-- reported at its end.
pub record WasRefused {S : Type 0} (judge : Judge)
    (steps : S → Option (Bor KeptCertificate) → S → Type 0) (checks : ChainChecks)
    (checked : KeptCertificate) (chain : Option S) (e : CertError) : Type 0 where
  pub given : Option (List KeptCertificate)
  pub came : GaveSoFar steps chain given
  pub ended : e ≡ errors.InvalidChain chain_errors.NoRoot → IsWalked steps chain given
  pub broken : IsFirstBroken (chain_rules judge checks checked given) e

-- the iterator's first item may be a parent
pub record GivesParent {S : Type 0} (steps : S → Option (Bor KeptCertificate) → S → Type 0)
    (iterator : S) : Type 0 where
  pub parent : Bor KeptCertificate
  pub rest : S
  pub given : steps iterator (Some parent) rest

-- The chain is checked and given, and yields a parent.
pub record HasParent {S : Type 0} (steps : S → Option (Bor KeptCertificate) → S → Type 0)
    (checks : ChainChecks) (chain : Option S) : Type 0 where
  pub asked : IsTrue checks.chain
  pub iterator : S
  pub is : chain ≡ Some iterator
  pub gives : GivesParent steps iterator

-- Memory may run out: a date is given if dates are checked, and the certificate isn't valid, so the
-- error has its name, or there is a parent to check.
abbrev pub AsksForMemory : {S : Type 0} → (S → Option (Bor KeptCertificate) → S → Type 0)
    → ChainChecks → KeptCertificate → Option S → Type 0
AsksForMemory steps checks checked chain =
    IsDated checks
    × ((IsWithinWindow checks.window checked.elements → ⊥) ⊎ HasParent steps checks chain)
