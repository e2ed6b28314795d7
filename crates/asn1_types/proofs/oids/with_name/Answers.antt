use Rattle.std.proofs.Common.{sym, ◌∙◌}
use Rattle.std.proofs.lemmas.Bool.{both_ways}
use Rattle.std.proofs.lemmas.Slice.Eq.{bytes_eq-Decides}
use Rattle.asn1_types.proofs.KnownRows.{row_found, row_passed}
use Rattle.asn1_types.proofs.oids.with_name.Goals as goal

pub returns-then-eq : goal.returns-then-eq
returns-then-eq c = (
  row_found c.args.rows.now c.loop-name.name-index _ c.loop-name-test.true,
  (bytes_eq-Decides _ c.args.wanted.now).0 (sym c.eq.ensures ∙ c.if-eq.true),
)

pub loop-name-preserved : goal.loop-name-preserved
loop-name-preserved c =
    row_passed (λ row. row.name) c.args.rows.now c.loop-name.name-index _ c.args.wanted.now c.loop-name-test.true
    (λ same. both_ways _ (sym c.eq.ensures ∙ c.if-eq.false) ((bytes_eq-Decides _ c.args.wanted.now).1 same))
    c.loop-name.invariant
