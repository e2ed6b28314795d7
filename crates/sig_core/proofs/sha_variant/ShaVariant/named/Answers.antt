use Rattle.std.proofs.Common.{◌∙◌, ◌<◌, ap, arith}
use Rattle.sig_core.specs.ShaVariant.{digest_identifier}
use Rattle.sig_core.proofs.Variants.{has_each}
use Rattle.sig_core.proofs.sha_variant.ShaVariant.named.Goals as goal

pub returns : goal.returns
returns c = λ variant e.
    let has = has_each variant in
    let within : has.0 < c.loop-variant.variant-index = omega (arith, has.1) in
    absurd (c.loop-variant.invariant has.0 variant within (ap digest_identifier has.2 ∙ e))
