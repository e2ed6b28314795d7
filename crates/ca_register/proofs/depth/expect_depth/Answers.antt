use Rattle.std.proofs.Common.{◌≡◌, ◌+◌, refl, sym, ap, ◌∙◌, arith}
use Rattle.std.proofs.lemmas.Bool.{false≢true}
use Rattle.x509_core.proofs.Validity.{same_some}
use Rattle.ca_register.specs.declared.entry.Entry.{Entry}
use Rattle.ca_register.proofs.Records.{issued_at, root_at}
use Rattle.ca_register.proofs.Walking.{IsShortAt, deep_more, deep_to_root, too_short}
use Rattle.ca_register.proofs.depth.expect_depth.Goals as goal

pub entry_at-requires-in-Some : goal.entry_at-requires-in-Some
entry_at-requires-in-Some c =
    let earlier = c.requires.ordered c.loop-above.at c.in-Some.above
    (issued_at c.args.entries.now c.loop-above.at c.in-Some.above c.entry_at.result c.entry_at.ensures c.in-Some.is) in
    record { within = omega (arith, earlier, c.loop-above.invariant.within) }

pub returns-then-is_too_short : goal.returns-then-is_too_short
returns-then-is_too_short c = (
  c.loop-above.number + 1,
  too_short c.args.entries.now c.args.issuer c.loop-above.number c.loop-above.at c.in-Some.above c.loop-above.invariant.deep c.entry_at.result
      c.entry_at.ensures c.in-Some.is c.requires.ordered c.requires.within
      (c.entry_at-in-Some.result, c.entry_at-in-Some.ensures, c.is_too_short.ensures.0 c.if-is_too_short.true),
  refl,
)

pub loop-above-smaller : goal.loop-above-smaller
loop-above-smaller c = c.requires.ordered c.loop-above.at c.in-Some.above
    (issued_at c.args.entries.now c.loop-above.at c.in-Some.above c.entry_at.result c.entry_at.ensures c.in-Some.is)

pub loop-above-preserved : goal.loop-above-preserved
loop-above-preserved c =
    let earlier = c.requires.ordered c.loop-above.at c.in-Some.above
    (issued_at c.args.entries.now c.loop-above.at c.in-Some.above c.entry_at.result c.entry_at.ensures c.in-Some.is) in
    let enough : IsShortAt c.args.entries.now c.args.issuer c.in-Some.above (c.loop-above.number + 1) → ⊥ = λ short.
    let same : short.0 ≡ c.entry_at-in-Some.result = same_some short.0 c.entry_at-in-Some.result (sym short.1 ∙ c.entry_at-in-Some.ensures) in
    false≢true (sym c.if-is_too_short.false
    ∙ c.is_too_short.ensures.1 (short.2.0, ap (λ (e : Entry). e.grant.path_length) (sym same) ∙ short.2.1, short.2.2)) in
    record {
      within = omega (arith, earlier, c.loop-above.invariant.within);
      few = omega (arith, earlier, c.loop-above.invariant.few);
      deep = deep_more c.args.entries.now c.args.issuer c.loop-above.number c.loop-above.at c.in-Some.above c.loop-above.invariant.deep c.entry_at.result
          c.entry_at.ensures c.in-Some.is enough;
    }

pub returns : goal.returns
returns c = deep_to_root c.args.entries.now c.args.issuer c.loop-above.number c.loop-above.at c.loop-above.invariant.deep
    (root_at c.args.entries.now c.loop-above.at c.entry_at.result c.entry_at.ensures c.in_default.is)
