use Rattle.std.proofs.Common.{List, ℕ, IsSome, string_bytes, arith, refl, subst}
use Rattle.picky_check.specs.Words.{asked_hash}
use Rattle.picky_check.proofs.AskedWords.{basic_asks}
use Rattle.picky_check.proofs.words.basic_of.Goals as goal

pub returns-in_err-hash-clause-memory : goal.returns-in_err-hash-clause-memory
returns-in_err-hash-clause-memory c _ =
    basic_asks string_bytes c.args.words.now c.hash-item.result (omega arith) c.hash-item.is
    (subst (λ (word : List ℕ). IsSome (asked_hash word)) c.as_str.ensures.value (c.in_err-hash.ensures.memory refl))
