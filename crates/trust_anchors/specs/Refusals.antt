-- Why there are too many certificates.
use Rattle.std.specs.Prelude.{◌≡◌, ℕ}
use Rattle.trust_anchors.specs.declared.error.AnchorError.{AnchorError}
use Rattle.trust_anchors.specs.declared.error.AnchorError.TheVariants as errors

-- the error reports this number if there are too many, or else out of memory
abbrev pub IsRefusal : (AreMany : Type 0) → ℕ → AnchorError → Type 0
IsRefusal AreMany number (errors.TooMany count) = AreMany × (count ≡ number)
IsRefusal AreMany number errors.Memory = AreMany → ⊥
