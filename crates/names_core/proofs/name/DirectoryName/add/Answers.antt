use Rattle.std.proofs.Common.{refl, rules}
use Rattle.names_core.proofs.name.DirectoryName.add.Goals as goal

pub returns-clause-ok : goal.returns-clause-ok
returns-clause-ok c = record {
  attribute = record { ty = c.args.ty; value = c.args.value };
  appended = search rules;
  typed = refl;
  valued = refl;
}
