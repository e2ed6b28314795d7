use Rattle.std.proofs.Common.{sym, ◌∙◌, append_assoc, append-nil}
use Rattle.std.proofs.lemmas.Str.{IsUtf8-past_char}
use Rattle.cms_types.proofs.Characters.{basic_front, basic_back, units_step, units_empty}
use Rattle.cms_types.proofs.opus_info.spc_string.units_of.Goals as goal

pub push_unit-requires : goal.push_unit-requires
push_unit-requires c =
    let held = c.loop-character.invariant in
    basic_front _ _ c.in-Some.character held.0 c.in-Some.ensures.steps.0 held.1

pub loop-character-preserved : goal.loop-character-preserved
loop-character-preserved c =
    let held = c.loop-character.invariant in
    let parts = c.in-Some.ensures.steps.0 in (
      IsUtf8-past_char _ _ c.in-Some.character held.0 parts,
      basic_back _ _ c.in-Some.character held.0 parts held.1,
      rw (c.in_ok-push_unit.ensures, append_assoc) (rw (units_step _ _ c.in-Some.character held.0 parts) at held.2),
    )

pub returns : goal.returns
returns c = c.from.ensures ∙ sym (append-nil _) ∙ rw (units_empty _ c.in-None.ensures.steps.0.0) at c.loop-character.invariant.2
