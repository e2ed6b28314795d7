use Rattle.std.proofs.Common.{ℕ, List, length}
use Rattle.x509_types.specs.CertificateElements.{CertificateElements}
use Rattle.authenticode_core.specs.OthersCursor.{AreLeft, unread_members}
use Rattle.authenticode_core.proofs.LinkedIndices.{Linked}
use Rattle.authenticode_core.proofs.path.linked_places.Given as goal

-- the certificates at the indices so far are linked, and the others are left
abbrev pub invariant-loop-next : goal.invariant-loop-next
invariant-loop-next g l = (bag : List CertificateElements) (all : List ℕ) → AreLeft l.initial.parents bag all
    → Linked (g.S.Scheme.judge l.scheme) l.window bag l.checked all l.parents l.linking

abbrev pub decreases-loop-next : goal.decreases-loop-next
decreases-loop-next g l = length (unread_members l.parents.source)
