use Rattle.std.proofs.Common.{refl, arith}
use Rattle.std.proofs.lemmas.Str.{IsUtf8-past_char}
use Rattle.cms_types.proofs.Characters.{basic_empty, basic_back, basic_step}
use Rattle.cms_types.proofs.opus_info.spc_string.is_basic.Goals as goal

pub loop-character-preserved : goal.loop-character-preserved
loop-character-preserved c =
    let held = c.loop-character.invariant in
    let parts = c.in-Some.ensures.steps.0 in (
      IsUtf8-past_char _ _ c.in-Some.character held.0 parts,
      (
        λ all. held.1.0 (basic_step _ _ c.in-Some.character held.0 parts (omega arith) all),
        λ all. basic_back _ _ c.in-Some.character held.0 parts (held.1.1 all),
      ),
    )

pub returns : goal.returns
returns c = (λ _. c.loop-character.invariant.1.0 (basic_empty _ c.in-None.ensures.steps.0.0), λ _. refl)
