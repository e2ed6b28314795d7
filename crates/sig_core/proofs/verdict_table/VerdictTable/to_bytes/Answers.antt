use Rattle.std.proofs.Common.{◌≡◌, sym, subst, arith}
use Rattle.std.specs.List.{AllByRecursion}
use Rattle.std.proofs.lemmas.Grind.{common_steps}
use Rattle.sig_core.specs.VerdictTable.{IsRow, IsTable, version_2_text}
use Rattle.sig_core.specs.declared.verdict_row.TableVersion.TheVariants.{Two}
use Rattle.sig_core.proofs.Tables.{text_is_table}
use Rattle.sig_core.proofs.verdict_table.VerdictTable.to_bytes.Goals as goal

pub returns-clause-table : goal.returns-clause-table
returns-clause-table c =
    let text : c.loop-row.text.items ≡ version_2_text c.args.self.now = grind (arith, common_steps) in
    subst (λ t. IsTable t c.args.self.now) (sym text)
    (text_is_table c.args.self.now (subst (AllByRecursion (IsRow Two)) c.self.view_is c.self.invariant.0))
