use Rattle.std.proofs.Common.{length, arith, lit<, ◌∙◌, rules}
use Rattle.std.specs.Prelude.{string_bytes}
use Rattle.std.proofs.lemmas.Iterator.Splits.{YieldsList-from_str_split}
use Rattle.std.proofs.lemmas.Iterator.Consumers.{YieldsList-turn, YieldsList-end}
use Rattle.std.proofs.lemmas.List.{take_all, length_push}
use Rattle.door_frame.specs.Words.{lines_of}
use Rattle.door_frame.proofs.Lines.{one_more_line}
use Rattle.door_frame.proofs.words.words_of.Goals as goal

pub loop-word-preserved : goal.loop-word-preserved
loop-word-preserved c =
    let turn = YieldsList-turn (YieldsList-from_str_split 10 c.args.text.now (lit< tt) (cc) (cc) (cc))
    c.loop-word.yielded _ c.loop-word.yielded_by _ _ c.in-Some.word c.in-Some.is c.next.ensures.steps in (
      search rules,
      search rules,
      one_more_line string_bytes c.args.text.now c.loop-word.words.items _ _ c.in-Some.word.now (length c.loop-word.yielded) _
          c.loop-word.invariant.2 c.in_ok-push.ensures.items turn.0 turn.1 c.in_ok-from_str.ensures.ok
          (length_push c.loop-word.yielded c.in-Some.word),
    )

pub returns : goal.returns
returns c =
    let end = YieldsList-end (YieldsList-from_str_split 10 c.args.text.now (lit< tt) (cc) (cc) (cc))
    c.loop-word.yielded _ c.loop-word.yielded_by _ _ c.in-None.is c.next.ensures.steps in
    c.loop-word.invariant.2 ∙ take_all (length c.loop-word.yielded) (lines_of c.args.text.now) (omega (arith, end.1))
