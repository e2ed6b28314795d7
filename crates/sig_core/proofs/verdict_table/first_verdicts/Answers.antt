use Rattle.std.proofs.Common.{◌<◌, [], arith, get_or, length, sym, ◌∙◌, ap, subst, rules, unwrap_or}
use Rattle.std.specs.BTreeMap.Entry.{map_with_value}
use Rattle.std.proofs.lemmas.List.{take_more}
use Rattle.sig_core.specs.FirstVerdicts.{HasFirstVerdicts}
use Rattle.sig_core.specs.declared.algorithm.SigAlg.TheVariants.{RsaMd5}
use Rattle.sig_core.specs.declared.scheme.Verdict.TheVariants.{Accept}
use Rattle.sig_core.specs.declared.verdict_row.VerdictRow.{VerdictRow}
use Rattle.sig_core.specs.contracts.verdict_row.SignatureDigestsOrd.TheImpl as block
use Rattle.sig_core.specs.contracts.verdict_row.SignatureDigestsOrd.TheImpl.Laws.{total-law, matches_eq-law}
use Rattle.sig_core.proofs.Verdicts.{kept, one_of_equals}
use Rattle.sig_core.proofs.verdict_table.first_verdicts.Goals as goal

abbrev no_row : VerdictRow
no_row = record { verdict = Accept; signature = record { alg = RsaMd5; key = []; msg = []; sig = [] } }

pub loop-row-preserved : goal.loop-row-preserved
loop-row-preserved c =
    let row = get_or c.args.rows.now c.loop-row.row-index no_row in
    let within : c.loop-row.row-index < length c.args.rows.now = omega (arith, c.loop-row-test.true) in
    let verdict = c.or_insert.result.now in
    let now = map_with_value c.in_ok-verdicts.field-0 verdict in
    let is = c.or_insert.ensures.value ∙ ap (λ o. unwrap_or o row.verdict) c.in_ok-verdicts.ensures.value in
    let after =
    subst (λ rows. HasFirstVerdicts block.ghosts.cmp rows now) (sym (take_more c.args.rows.now c.loop-row.row-index no_row within))
    (kept block.ghosts.cmp total-law (one_of_equals _ _ (λ a b. search rules) matches_eq-law) c.loop-row.verdicts now _ row verdict c.loop-row.invariant is
    (c.in_ok-verdicts.ensures.update.0 verdict).0) in
    λ q. grind (arith, after q)
