use Rattle.name_types.proofs.Texts.{one_octet_left}
use Rattle.name_types.proofs.text.write_bmp.Goals as goal
use Rattle.std.proofs.Common.{◌++◌, encode_utf8, sym, ap, ◌∙◌, append_assoc, rules, lit<, arith}
use Rattle.std.proofs.Output.{has_written_append, has_written_of_eq}
use Rattle.std.proofs.lemmas.Bool.Decides.{nat_tests}
use Rattle.std.proofs.lemmas.Str.{encode_ascii}

pub loop-character-preserved : goal.loop-character-preserved
loop-character-preserved g c =
    λ plain.
    let so_far = c.loop-character.invariant plain in
    let character = c.in-Some.character in (
      so_far.0 ++ encode_utf8 character,
      has_written_append _ _ _ _ _ _ so_far.1 (search rules),
      append_assoc so_far.0 (encode_utf8 character) _ ∙ ap (λ t. so_far.0 ++ t) (sym c.in-Some.ensures.1) ∙ so_far.2,
    )

pub returns : goal.returns
returns g c =
    λ plain ok.
    let so_far = c.loop-character.invariant plain in
    let last = one_octet_left c.loop-character.rest.now c.in_default.ensures (grind (arith, nat_tests)) in
    has_written_of_eq _ _ _ _ _ (ap (λ t. so_far.0 ++ t) (encode_ascii 63 (lit< tt) ∙ sym last) ∙ so_far.2)
    (has_written_append _ _ so_far.0 _ _ _ so_far.1 (c.write_char-2.ensures.writes so_far.1.plain ok))
