use Rattle.extension_types.proofs.KeyUsages.{clear, first_octet, no_usage, one_octet, two_octets}
use Rattle.extension_types.proofs.key_usage.KeyUsage.new.Goals.{then-flags-eq1+in_ok-bits, else-flags-eq1+then-first-ne0+in_ok-bits-2}
use Rattle.extension_types.proofs.key_usage.KeyUsage.new.Goals.{else-flags-eq1+else-first-ne0+in_ok-bits-3}
use Rattle.extension_types.proofs.key_usage.KeyUsage.new.Goals as goal
use Rattle.std.proofs.Common.{◌/◌, rules, sym, ◌∙◌}
use Rattle.std.proofs.lemmas.Nat.Bits.{shr_and_one}

pub returns : goal.returns
returns c =
    let flags = c.args.flags in
    let first = c.reverse_bits-first.result in
    let octet = first_octet flags first c.reverse_bits-first.ensures in
    let ninth = shr_and_one flags 8 in
    elim c.if-flags-eq1.branch [
      | then-flags-eq1+in_ok-bits w ↦ rw w.bits-is (two_octets flags first w.in_ok-bits.bits w.in_ok-bits.ensures (sym ninth ∙ search rules) octet)
      | else-flags-eq1+then-first-ne0+in_ok-bits-2 w ↦ rw w.bits-is
          (one_octet flags first w.in_ok-bits-2.bits w.in_ok-bits-2.ensures (clear _ (flags / 256) ninth (search rules)) octet (search rules) (search rules))
      | else-flags-eq1+else-first-ne0+in_ok-bits-3 w ↦
          rw w.bits-is (no_usage flags first w.in_ok-bits-3.bits w.in_ok-bits-3.ensures (clear _ (flags / 256) ninth (search rules)) octet (search rules))
    ]
