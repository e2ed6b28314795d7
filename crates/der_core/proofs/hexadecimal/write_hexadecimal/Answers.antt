use Rattle.std.proofs.Common.{arith, subst, rules, slice_index}
use Rattle.std.proofs.Output.{has_written_append, has_written_of_eq}
use Rattle.std.specs.Fmt.{DisplaysOnOk}
use Rattle.der_core.proofs.Digits.{octet_written, one_more_octet}
use Rattle.hex.specs.Hex.{encode_with}
use Rattle.der_core.proofs.hexadecimal.write_hexadecimal.Goals as goal

pub loop-octet-init : goal.loop-octet-init
unfolding encode_with
loop-octet-init g c = search rules

pub loop-octet-preserved : goal.loop-octet-preserved
loop-octet-preserved g c =
    λ plain.
    let octet = slice_index c.args.octets.now c.loop-octet.octet-index in
    let so_far = c.loop-octet.invariant plain in
    let written = subst (λ o. DisplaysOnOk g.W.Write.write_str_gives c.loop-octet.f c.write.result o c.write.new.self)
    (octet_written c.in_radix.result c.laid_out.result octet c.laid_out.ensures c.in_radix.ensures (omega (arith, c.type_inv.octets c.loop-octet.octet-index)))
    c.write.ensures.writes in
    has_written_of_eq _ _ _ _ _ (one_more_octet c.args.octets.now c.loop-octet.octet-index c.loop-octet-test.true)
    (has_written_append _ _ _ _ _ _ so_far (written so_far.plain (search rules)))
