-- A bag, read one certificate at a time.
use Rattle.std.specs.Prelude.{◌≡◌, List, ◌++◌, length}
use Rattle.x509_types.specs.CertificateElements.{CertificateElements}
use Rattle.authenticode_core.specs.CertificateBag.{IsBag}
use Rattle.authenticode_core.specs.LeftMembers.{left_members}
use Rattle.authenticode_core.specs.declared.bag.Bag.{Bag}

-- The cursor is in this bag: its index is the number of certificates before it, and those behind it
-- are the bag of the members that are left.
pub record StandsIn (cursor : Bag) (bag : List CertificateElements) : Type 0 where
  pub before : List CertificateElements
  pub behind : List CertificateElements
  pub are : bag ≡ before ++ behind
  pub placed : cursor.place ≡ length before
  pub left : IsBag (left_members cursor.members) behind
