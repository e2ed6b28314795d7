-- An issuer walk in progress.
use Rattle.std.specs.Prelude.{◌≡◌, Bool, true, false, ℕ, suc, List}
use Rattle.der_core.specs.DerElement.{DerElement}
use Rattle.der_core.specs.Encoding.{encoding}
use Rattle.x509_types.specs.CertificateElements.{CertificateElements}
use Rattle.authenticode_core.specs.BagCursor.{StandsIn}
use Rattle.authenticode_core.specs.Names.{HasSubject}
use Rattle.authenticode_core.specs.Indices.{StandsAt}
use Rattle.authenticode_core.specs.declared.bag.issuer_walk.IssuerWalk.{IssuerWalk}

-- The walk searches for a subject from an index of the bag on.
pub record LooksFrom (walk : IssuerWalk) (bag : List CertificateElements) (from : ℕ)
    (subject : DerElement) : Type 0 where
  pub stands : StandsIn walk.bag bag
  pub place : walk.bag.place ≡ from
  pub octets : walk.subject.now ≡ encoding subject

-- The certificate at the index is on the walk, which then searches for its issuer; or it isn't, and
-- the walk still searches for the subject.
abbrev pub GoesPast : IssuerWalk → List CertificateElements → ℕ → DerElement → CertificateElements
    → Bool → Type 0
GoesPast walk bag from subject c true =
    HasSubject subject c × LooksFrom walk bag (suc from) c.tbs.issuer
GoesPast walk bag from subject c false =
    (HasSubject subject c → ⊥) × LooksFrom walk bag (suc from) subject

-- The next certificate of the bag is at the index from which the walk searches.
pub record StepsTo (walk : IssuerWalk) (bag : List CertificateElements) (from : ℕ)
    (subject : DerElement) (place : ℕ) (c : CertificateElements) (on_walk : Bool) : Type 0 where
  pub placed : place ≡ from
  pub stands : StandsAt bag from c
  pub goes : GoesPast walk bag from subject c on_walk
