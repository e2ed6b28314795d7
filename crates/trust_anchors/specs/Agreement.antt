-- Schemes that agree on the links of a search.
use Rattle.std.specs.Prelude.{◌≡◌, ◌⊎◌, ◌↔◌, List, Contains}
use Rattle.key_core.specs.Verifying.{Judge}
use Rattle.x509_core.specs.OwnedCertificate.{KeptCertificate}
use Rattle.x509_core.specs.Link.{IsSignedBy}
use Rattle.trust_anchors.specs.Anchors.{Serves}
use Rattle.trust_anchors.specs.declared.anchor.Anchor.{Anchor}
use Rattle.trust_anchors.specs.declared.anchor.Purpose.{Purpose}

-- it is the checked certificate, or one of the pool
abbrev pub IsBelow : KeptCertificate → List KeptCertificate → KeptCertificate → Type 0
IsBelow checked pool child = (child ≡ checked) ⊎ Contains pool child

-- it is one of the pool, or the certificate of an anchor that serves the purpose
abbrev pub IsAbove : List KeptCertificate → List Anchor → Purpose → KeptCertificate → Type 0
IsAbove pool anchors purpose parent =
    Contains pool parent
    ⊎ ((anchor : Anchor) × Contains anchors anchor × Serves anchor purpose × (parent ≡ anchor.cert))

-- Under both schemes the same certificates sign the checked one and those of the pool, of those in
-- the pool and of the anchors that serve the purpose.
abbrev pub AgreeOnLinks : Judge → Judge → KeptCertificate → List KeptCertificate → List Anchor
    → Purpose → Type 0
AgreeOnLinks a b checked pool anchors purpose =
    (parent child : KeptCertificate) → IsAbove pool anchors purpose parent
    → IsBelow checked pool child
    → IsSignedBy a parent.elements child.elements ↔ IsSignedBy b parent.elements child.elements
