-- The state of a shelf of borrowed files.
use Rattle.program_frame.specs.Shelf.{ShelfState}
use Rattle.door_frame.specs.Call.{lent_shelf}
use Rattle.door_frame.specs.Files.{lent_files}
use Rattle.door_frame.specs.declared.borrowed_shelf.LentShelf.{LentShelf}

-- the observable state of a shelf of borrowed files
abbrev pub lent_state : LentShelf → ShelfState
lent_state shelf = lent_shelf (lent_files shelf.files.now) shelf.rest.now shelf.given shelf.faults
