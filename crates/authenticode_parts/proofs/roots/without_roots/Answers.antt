use Rattle.authenticode_parts.proofs.SortedCertificates.{all_sorted, not_root, other_kept}
use Rattle.authenticode_parts.proofs.roots.without_roots.Goals as goal

pub loop-certificate-preserved-in_ok-push : goal.loop-certificate-preserved-in_ok-push
loop-certificate-preserved-in_ok-push c =
    other_kept _ _ _ _ _ _ _ c.loop-certificate.invariant c.in-Some.ensures.cases.0 (not_root c.if-not-is_root.ensures)
    c.in_ok-member_of.ensures c.in_ok-push.ensures.ok

pub returns : goal.returns
returns c = all_sorted _ _ _ c.loop-certificate.invariant c.in_default.ensures.cases
