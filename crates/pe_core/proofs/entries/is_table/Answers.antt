use Rattle.std.proofs.Common.{◌≡◌, ℕ, List, ◌++◌, length, ap, ◌∙◌, arith}
use Rattle.std.proofs.lemmas.Bool.{both_ways, false≢true}
use Rattle.pe_core.specs.Entries.{padding_size, padding}
use Rattle.pe_core.proofs.Tables.{ended, stepped, unfilled, filled_by, no_table}
use Rattle.pe_core.proofs.entries.is_table.Goals as goal

pub returns-then-behind-lt-HEADER_LENGTH : goal.returns-then-behind-lt-HEADER_LENGTH
returns-then-behind-lt-HEADER_LENGTH c =
    let held = c.loop-entry.invariant in
    let ends = ended c.loop-entry.rest.now c.in-Some.entry.now c.in-Some.behind.now c.in-Some.ensures.0 c.in-Some.ensures.1 (omega arith) in
    (λ yes. held.1 (ends.1 (c.is_zeros.ensures.0 yes)), λ has. c.is_zeros.ensures.1 (ends.0 (held.0 has)))

pub returns-then-not-is_zeros : goal.returns-then-not-is_zeros
returns-then-not-is_zeros c =
    let filling = c.split_at.result.0.now in
    let sized : length filling ≡ padding_size (length c.in-Some.entry.now) = c.split_at.ensures.front_len ∙ c.padding_length.ensures in (
      λ no. absurd (false≢true no),
      λ has.
          absurd (unfilled c.loop-entry.rest.now c.in-Some.entry.now c.in-Some.behind.now filling c.split_at.result.1.now
          c.in-Some.ensures.0 c.in-Some.ensures.1 (omega arith) c.split_at.ensures.by_index.0 sized
          (λ zeros. both_ways c.is_zeros-in-Some.result c.if-not-is_zeros.true (c.is_zeros-in-Some.ensures.1 zeros))
          (c.loop-entry.invariant.0 has)),
    )

pub loop-entry-preserved : goal.loop-entry-preserved
loop-entry-preserved c =
    let held = c.loop-entry.invariant in
    let filling = c.split_at.result.0.now in
    let next = c.split_at.result.1.now in
    let sized : length filling ≡ padding_size (length c.in-Some.entry.now) = c.split_at.ensures.front_len ∙ c.padding_length.ensures in
    let zeros = c.is_zeros-in-Some.ensures.0 c.if-not-is_zeros.false in
    let filled : c.in-Some.behind.now ≡ padding (length c.in-Some.entry.now) ++ next =
    c.split_at.ensures.by_index.0 ∙ ap (λ (o : List ℕ). o ++ next) (filled_by filling (length c.in-Some.entry.now) sized zeros) in
    let step =
    stepped c.loop-entry.rest.now c.in-Some.entry.now c.in-Some.behind.now next c.in-Some.ensures.0 c.in-Some.ensures.1 (omega arith)
    filled in
    (λ has. step.0 (held.0 has), λ has. held.1 (step.1 has))

pub returns : goal.returns
returns c = (
  λ no. absurd (false≢true no),
  λ has. absurd (no_table c.loop-entry.rest.now c.in_default.ensures (c.loop-entry.invariant.0 has)),
)
