use Rattle.std.proofs.Common.{◌∷◌, ◌++◌, [], map, sym, ◌∙◌, ap, subst, arith, rules}
use Rattle.std.proofs.lemmas.List.{length-map, map-append}
use Rattle.ca_register.specs.Owned.{line_held, line_read}
use Rattle.ca_register.specs.Lines.{Line, line_words}
use Rattle.ca_register.proofs.Spelling.{line_in_line, none_some, same_some}
use Rattle.ca_register.proofs.Texts.{HasRead, bad_rest, empty, read_more, read_once, too_many}
use Rattle.ca_register.proofs.text.reading.lines_in.Goals as goal

pub returns-in_default-clause-stopped : goal.returns-in_default-clause-stopped
returns-in_default-clause-stopped c =
    bad_rest _ _ _ c.loop-rest.invariant.1 (search rules)
    (λ line more is spelled. c.in_default.ensures.only (line_words line) more (line_in_line line is) spelled)

pub returns-in_default-clause-only : goal.returns-in_default-clause-only
returns-in_default-clause-only c lines is = absurd (returns-in_default-clause-stopped c lines is)

pub returns-in_default-line_of-clause-stopped : goal.returns-in_default-line_of-clause-stopped
returns-in_default-line_of-clause-stopped c =
    bad_rest _ _ _ c.loop-rest.invariant.1 (search rules) (λ line more is spelled.
    let cut = c.in-Some.ensures.only (line_words line) more (line_in_line line is) spelled in
    none_some line (c.in_default-line_of.ensures.only line is cut.0))

pub returns-in_default-line_of-clause-only : goal.returns-in_default-line_of-clause-only
returns-in_default-line_of-clause-only c lines is = absurd (returns-in_default-line_of-clause-stopped c lines is)

pub returns-then-len-ge-MOST_LINES-clause-stopped : goal.returns-then-len-ge-MOST_LINES-clause-stopped
returns-then-len-ge-MOST_LINES-clause-stopped c =
    too_many _ _ _ c.loop-rest.invariant.1 (search rules) (omega (arith, c.if-len-ge-MOST_LINES.true, length-map c.loop-rest.lines.items line_held))

pub returns-then-len-ge-MOST_LINES-clause-only : goal.returns-then-len-ge-MOST_LINES-clause-only
returns-then-len-ge-MOST_LINES-clause-only c lines is = absurd (returns-then-len-ge-MOST_LINES-clause-stopped c lines is)

pub loop-rest-preserved : goal.loop-rest-preserved
loop-rest-preserved c =
    let line = line_read c.in-Some-line_of.line in
    let more = read_more c.args.text.now c.loop-rest.rest.now (map line_held c.loop-rest.lines.items) c.loop-rest.invariant.1 (search rules)
    c.in-Some.words.now c.in-Some.behind.now line
    c.in-Some-line_of.ensures.read.0 c.in-Some-line_of.ensures.read.1 c.in-Some.ensures.cut c.in-Some.ensures.only
    (λ other is spelled. same_some line other (c.in-Some-line_of.ensures.only other is spelled))
    (omega (arith, c.if-len-ge-MOST_LINES.false, length-map c.loop-rest.lines.items line_held)) in
    let items = ap (map line_held) c.in_ok-push.ensures.items ∙ map-append line_held c.loop-rest.lines.items (c.in_ok-kept_line.field-0 ∷ []) in (
      search rules,
      subst (HasRead c.args.text.now c.in-Some.behind.now)
          (sym (items ∙ ap (λ (l : Line). map line_held c.loop-rest.lines.items ++ l ∷ []) c.in_ok-kept_line.ensures)) more,
    )

pub returns-clause-only : goal.returns-clause-only
returns-clause-only c lines is = read_once _ _ _ c.loop-rest.invariant.1 (empty _ (search rules)) lines is
