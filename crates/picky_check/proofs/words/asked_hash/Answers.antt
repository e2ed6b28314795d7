use Rattle.std.proofs.Common.{inl, inr}
use Rattle.picky_check.proofs.Hashes.{no_hash}
use Rattle.picky_check.proofs.words.asked_hash.Goals as goal
use Rattle.picky_check.proofs.words.asked_hash.Goals.{then-count-eq0-via-then-count-eq0, then-count-eq0-via-else-count-eq0+then-count-gt-LONGEST_HASH}

pub returns-then-count-eq0-clause-value : goal.returns-then-count-eq0-clause-value
returns-then-count-eq0-clause-value c =
    elim c.then-count-eq0.branch [
      | then-count-eq0-via-then-count-eq0 w ↦ no_hash c.args.word.now (inl w.if-count-eq0.true)
      | then-count-eq0-via-else-count-eq0+then-count-gt-LONGEST_HASH w ↦ no_hash c.args.word.now (inr w.if-count-gt-LONGEST_HASH.true)
    ]
