-- Elements that are borrowed one after another.
use Rattle.std.specs.Prelude.{◌≡◌, [], Option, Some, None}
use Rattle.der_core.specs.DerElement.{DerElement}
use Rattle.der_core.specs.Borrowed.{contents_octets}
use Rattle.der_core.specs.declared.cursor.Cursor.{Cursor}

-- The cursor is before the elements in the element, whose octets were tested.
pub record LendsKids (element : DerElement) (cursor : Cursor) : Type 0 where
  pub rest : cursor.rest.now ≡ contents_octets element
  pub place : cursor.place ≡ 0
  pub level : cursor.level ≡ 2

-- The cursor is before the elements in the element, if there is one, or before none.
abbrev pub LendsMembers : Option DerElement → Cursor → Type 0
LendsMembers None cursor = (cursor.rest.now ≡ []) × (cursor.place ≡ 0)
LendsMembers (Some element) cursor = LendsKids element cursor
