-- Reading certificates, and why they aren't read.
use Rattle.std.specs.Prelude.{◌≡◌, ◌++◌, ℕ, List, map}
use Rattle.x509_core.specs.OwnedCertificate.{KeptCertificate, kept_octets}
use Rattle.trust_anchors.specs.Commands.{HasUnread, code_anchor}
use Rattle.trust_anchors.specs.declared.anchor.Anchor.{Anchor}
use Rattle.trust_anchors.specs.declared.reading.ReadError.{ReadError}
use Rattle.trust_anchors.specs.declared.reading.ReadError.TheVariants as unread

-- why octets aren't read as certificates: some aren't one, or memory ran out
abbrev pub IsUnread : List (List ℕ) → ReadError → Type 0
IsUnread octets unread.NoCertificate = HasUnread octets
IsUnread octets unread.Memory = Unit {0}

-- the certificates with these octets were appended
abbrev pub AppendsRead : (before after : List KeptCertificate) → List (List ℕ) → Type 0
AppendsRead before after octets =
    (read : List KeptCertificate) × (after ≡ before ++ read) × (map kept_octets read ≡ octets)

-- the same as anchors that serve `code` alone
abbrev pub AppendsAnchors : (before after : List Anchor) → List (List ℕ) → Type 0
AppendsAnchors before after octets =
    (read : List KeptCertificate) × (after ≡ before ++ map code_anchor read)
    × (map kept_octets read ≡ octets)
