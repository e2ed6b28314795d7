use Rattle.sig_core.specs.VerdictTable.{first_line}
use Rattle.sig_core.specs.declared.verdict_row.TableVersion.TheVariants.{Two}
use Rattle.sig_core.proofs.Prefixes.{stripped}
use Rattle.sig_core.proofs.verdict_row.TableVersion.split_from.Goals as goal

pub returns-in-Some-clause-version : goal.returns-in-Some-clause-version
returns-in-Some-clause-version c =
    let here = c.in-Some.ensures.cases in
    (c.in-Some.rest.now, stripped (first_line Two) c.args.text.now c.in-Some.rest.now here.0 here.1)
