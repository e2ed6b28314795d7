use Rattle.std.proofs.Common.{refl, rules}
use Rattle.der_core.specs.Facts.Equality.{octets_decide}
use Rattle.name_types.specs.DirectoryString.{directory_string}
use Rattle.name_types.specs.Facts.Names.{directory_strings}
use Rattle.name_types.proofs.directory_string.DirectoryStringPartialEq.eq.Goals as goal

pub returns-then-tag-clause-octets : goal.returns-then-tag-clause-octets
returns-then-tag-clause-octets c = octets_decide directory_string (λ a b e. directory_strings.once (directory_string a) a b refl e)
    directory_strings.formed c.args.self.now c.args.other.now _ (search rules)
