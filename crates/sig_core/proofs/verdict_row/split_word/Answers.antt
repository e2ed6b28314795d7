use Rattle.std.proofs.Common.{◌<◌, ◌++◌, sym, ◌∙◌, ap, arith}
use Rattle.sig_core.specs.declared.verdict_row.TableVersion.TheVariants.{Two}
use Rattle.sig_core.specs.VerdictTable.{verdict_word}
use Rattle.sig_core.proofs.Prefixes.{has_each_verdict}
use Rattle.sig_core.proofs.verdict_row.split_word.Goals as goal

pub returns : goal.returns
returns c verdict after e =
    let has = has_each_verdict verdict in
    let within : has.0 < c.loop-verdict.verdict-index = omega (arith, has.1) in
    c.loop-verdict.invariant has.0 verdict after within (e ∙ ap (λ v. verdict_word Two v ++ after) (sym has.2))
