-- Distinguished names have the grammar of names. Nothing here needs reading: no public clause cites
-- it.
use Rattle.std.proofs.Common.{◌≡◌, [], refl, ap}
use Rattle.der_core.specs.DerElement.{DerElement}
use Rattle.der_core.specs.Structure.{IsGrammar}
use Rattle.der_core.specs.Facts.Grammars.{printed}
use Rattle.name_types.specs.Name.{name}
use Rattle.name_types.specs.Facts.Names.{names}
use Rattle.names_core.specs.Names.{name_of_sets}
use Rattle.names_core.specs.declared.name.DirectoryName.{DirectoryName}

pub directory_names : IsGrammar (λ (element : DerElement) (made : DirectoryName). element ≡ name made.name) (λ (made : DirectoryName). name made.name)
    (λ made. [])
directory_names = printed (λ (made : DirectoryName). name made.name) (λ a b e. ap name_of_sets (names.once (name a.name) a.name b.name refl e))
    (λ made. names.formed made.name)
