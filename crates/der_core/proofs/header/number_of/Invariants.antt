use Rattle.std.proofs.Common.{◌≡◌, ◌*◌, ◌^◌, ◌<◌, drop}
use Rattle.der_core.specs.Head.{number_from}
use Rattle.der_core.proofs.header.number_of.Given as goal

-- The digits so far encode the number read, and the rest of them continue it.
abbrev pub invariant-loop-digit : goal.invariant-loop-digit
invariant-loop-digit l = record {
  small : l.number < 2 ^ (8 * l.digit-index);
  goes_on : number_from l.number (drop l.digit-index l.digits) ≡ number_from 0 l.digits;
}
