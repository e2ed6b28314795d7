use Rattle.std.proofs.Common.{◌≡◌, ℕ, ◌^◌, ◌-◌, ◌<◌, ◌/◌, ◌%◌, false, ap, arith, append_assoc, Some}
use Rattle.std.specs.Fmt.{format_spec, digits, digits_output, styled_digits_output}
use Rattle.std.proofs.lemmas.Fmt.{hex_byte}
use Rattle.pe_core.specs.ErrorText.{octet_digits}
use Rattle.pe_core.proofs.error.write_magic.Goals as goal

-- what `{:02x}` writes
octet_written : (d : _) (s : _) (octet : ℕ) → s ≡ format_spec 32 0 4 2 (2 ^ 64 - 1) → digits_output d ≡ Some (digits 16 false octet)
    → octet < 256 → styled_digits_output d s ≡ Some (octet_digits octet)
octet_written d s octet layout shown small = rw (layout, shown) (ap Some (hex_byte false octet small))

pub returns : goal.returns
returns g c plain ok =
    let number = c.args.number in
    let high = octet_written c.in_radix.result c.laid_out.result (number / 256) c.laid_out.ensures c.in_radix.ensures (omega arith) in
    let low = octet_written c.in_radix-2.result c.laid_out-2.result (number % 256) c.laid_out-2.ensures c.in_radix-2.ensures (omega arith) in
    let written = rw (high, low) at c.write.ensures.writes in
    simp append_assoc (written plain ok)
