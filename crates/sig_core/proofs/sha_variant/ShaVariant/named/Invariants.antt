use Rattle.std.proofs.Common.{◌≢◌, ℕ, ◌<◌, get_or}
use Rattle.sig_core.specs.declared.sha_variant.ShaVariant.{ShaVariant}
use Rattle.sig_core.specs.ShaVariant.{digest_identifier}
use Rattle.sig_core.proofs.sha_variant.ShaVariant.named.Given as goal

-- no variant so far has the OID
abbrev pub invariant-loop-variant : goal.invariant-loop-variant
invariant-loop-variant l =
    (k : ℕ) (d : ShaVariant) → k < l.variant-index → digest_identifier (get_or l.variant-items k d) ≢ l.contents
