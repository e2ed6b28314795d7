-- The texts of errors.
use Rattle.std.specs.Prelude.{ℕ, List, ◌++◌, codes}
use Rattle.std.specs.Fmt.{decimal}
use Rattle.trust_anchors.specs.declared.error.AnchorError.{AnchorError}
use Rattle.trust_anchors.specs.declared.error.AnchorError.TheVariants.{TooMany, Memory}

-- why an anchor isn't added, or a path isn't searched
abbrev pub error_text : AnchorError → List ℕ
error_text (TooMany count) = decimal count ++ codes " certificates are too many"
error_text Memory = codes "out of memory"
