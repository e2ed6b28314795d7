use Rattle.std.proofs.Common.{◌≡◌, map, take, length}
use Rattle.std.specs.Prelude.{string_bytes}
use Rattle.door_frame.specs.Words.{lines_of}
use Rattle.door_frame.proofs.words.words_of.Given as goal

-- the words so far are the lines so far
abbrev pub invariant-loop-word : goal.invariant-loop-word
invariant-loop-word l =
    (goal.iterator-loop-word).can_next l.word-iterator × (goal.iterator-loop-word).is_finite l.word-iterator
    × (map string_bytes l.words.items ≡ take (length l.yielded) (lines_of l.text))
