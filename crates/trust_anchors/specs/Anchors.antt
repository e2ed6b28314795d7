-- What a trust anchor is trusted for (RFC 5280 6.2).
use Rattle.std.specs.Prelude.{IsTrue}
use Rattle.trust_anchors.specs.declared.anchor.Anchor.{Anchor}
use Rattle.trust_anchors.specs.declared.anchor.Purpose.{Purpose}
use Rattle.trust_anchors.specs.declared.anchor.Purpose.TheVariants as purposes

-- the anchor is trusted for the purpose
abbrev pub Serves : Anchor → Purpose → Type 0
Serves anchor purposes.Code = IsTrue anchor.code
Serves anchor purposes.Time = IsTrue anchor.time
