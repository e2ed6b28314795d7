-- A path from a certificate through those of a pool to a trust anchor (RFC 5280 6.1).
use Rattle.std.specs.Prelude.{◌≡◌, ◌≤◌, ◌++◌, ◌∷◌, [], ℕ, List, Some, false, true, length, map, slice_get}
use Rattle.asn1_types.specs.declared.generalized_time.GeneralizedTime.{GeneralizedTime}
use Rattle.key_core.specs.Verifying.{Judge}
use Rattle.x509_core.specs.Chain.{IsLinkedChain}
use Rattle.x509_core.specs.OwnedCertificate.{KeptCertificate}
use Rattle.x509_core.specs.Window.{IsWithinWindow}
use Rattle.x509_core.specs.declared.validator.ChainChecks.{ChainChecks}
use Rattle.x509_core.specs.declared.window.DateCheck.TheVariants as dates
use Rattle.x509_core.specs.declared.window.Window.{Window}
use Rattle.trust_anchors.specs.Anchors.{Serves}
use Rattle.trust_anchors.specs.declared.anchor.Anchor.{Anchor}
use Rattle.trust_anchors.specs.declared.anchor.Purpose.{Purpose}
use Rattle.trust_anchors.specs.declared.path.AnchoredPath.{AnchoredPath}

-- both ends of a validity are compared with this date
abbrev pub window_on : GeneralizedTime → Window
window_on date = record { date = dates.Exact date; not_before = true; not_after = true }

-- everything is checked at this date, but that the last certificate is a root
abbrev pub checks_on : GeneralizedTime → ChainChecks
checks_on date = record { window = window_on date; chain = true; root = false }

-- the certificates of the pool at these indices, in order
abbrev pub AreAt : List KeptCertificate → List ℕ → List KeptCertificate → Type 0
AreAt pool indices certificates = map (slice_get pool) indices ≡ map Some certificates

-- The path has at most 15 indices of the pool, and its anchor serves the purpose. The certificate
-- is valid at the date, and the certificates at the indices and the anchor are a chain above it,
-- each of them valid at the date too.
pub record IsAnchoredPath (judge : Judge) (date : GeneralizedTime) (checked : KeptCertificate)
    (pool : List KeptCertificate) (anchors : List Anchor) (purpose : Purpose)
    (path : AnchoredPath) : Type 0 where
  pub few : length path.pool ≤ 15
  pub between : List KeptCertificate
  pub are : AreAt pool path.pool between
  pub anchor : Anchor
  pub last : slice_get anchors path.anchor ≡ Some anchor
  pub serves : Serves anchor purpose
  pub valid : IsWithinWindow (window_on date) checked.elements
  pub linked : IsLinkedChain judge (window_on date) checked (between ++ anchor.cert ∷ [])

-- the parents of the certificate, nearest first; the anchor is the last one
abbrev pub parents_of : {judge : Judge} {date : GeneralizedTime} {checked : KeptCertificate}
    {pool : List KeptCertificate} {anchors : List Anchor} {purpose : Purpose}
    {path : AnchoredPath} → IsAnchoredPath judge date checked pool anchors purpose path
    → List KeptCertificate
parents_of found = found.between ++ found.anchor.cert ∷ []

-- no path is one of these
abbrev pub HasNoPath : (AnchoredPath → Type 0) → Type 0
HasNoPath IsOne = (path : AnchoredPath) → IsOne path → ⊥
