-- The certificates of an issuer walk, or of a bag, without those with a given subject, that are
-- still to come.
use Rattle.std.specs.Prelude.{◌≡◌, ℕ, ◌+◌, List, ◌∷◌, length}
use Rattle.der_core.specs.DerElement.{DerElement}
use Rattle.der_core.specs.Encoding.{encoding}
use Rattle.x509_types.specs.CertificateElements.{CertificateElements}
use Rattle.authenticode_core.specs.BagCursor.{StandsIn}
use Rattle.authenticode_core.specs.Excuses.{places_from}
use Rattle.authenticode_core.specs.IssuerWalk.{IsWalkFrom, AreOthers}
use Rattle.authenticode_core.specs.LeftMembers.{left_members}
use Rattle.authenticode_core.specs.Indices.{StandsAt}
use Rattle.authenticode_core.specs.WalkCursor.{LooksFrom}
use Rattle.authenticode_core.specs.declared.bag.issuer_walk.IssuerWalk.{IssuerWalk}
use Rattle.authenticode_core.specs.declared.bag.others.Others.{Others}
use Rattle.authenticode_core.specs.declared.bag.others.Source.{Source}
use Rattle.authenticode_core.specs.declared.bag.others.Source.TheVariants as sources
use Rattle.authenticode_core.specs.declared.bag.Bag.{Bag}

-- The rest of the walk has these indices.
pub record WalksOver (walk : IssuerWalk) (bag : List CertificateElements)
    (places : List ℕ) : Type 0 where
  pub from : ℕ
  pub subject : DerElement
  pub looks : LooksFrom walk bag from subject
  pub walks : IsWalkFrom bag from subject places

-- The indices are those from the cursor's to the last of the bag.
pub record GoesOver (cursor : Bag) (bag : List CertificateElements) (places : List ℕ) : Type 0 where
  pub stands : StandsIn cursor bag
  pub count : ℕ
  pub counted : cursor.place + count ≡ length bag
  pub are : places ≡ places_from cursor.place count

-- the certificates that the source still yields are at these indices
abbrev pub GivesPlaces : Source → List CertificateElements → List ℕ → Type 0
GivesPlaces (sources.Walk walk) bag places = WalksOver walk bag places
GivesPlaces (sources.Bag cursor) bag places = GoesOver cursor bag places

-- The certificates that are left are at these indices: those of the source without those with the
-- subject.
pub record AreLeft (cursor : Others) (bag : List CertificateElements)
    (places : List ℕ) : Type 0 where
  pub subject : DerElement
  pub octets : cursor.subject.now ≡ encoding subject
  pub given : List ℕ
  pub gives : GivesPlaces cursor.source bag given
  pub others : AreOthers bag subject given places

-- The certificate is at the first of the indices, and the others follow it.
pub record IsFirstOf (bag : List CertificateElements) (places : List ℕ) (place : ℕ)
    (c : CertificateElements) (behind : List ℕ) : Type 0 where
  pub are : places ≡ place ∷ behind
  pub stands : StandsAt bag place c

-- the members that the source hasn't read yet
abbrev pub unread_members : Source → List DerElement
unread_members (sources.Walk walk) = left_members walk.bag.members
unread_members (sources.Bag cursor) = left_members cursor.members
