use Rattle.authenticode_parts.proofs.SortedCertificates.{is_intermediate, is_leaf, is_root, is_unknown}
use Rattle.authenticode_parts.proofs.roots.is_root.Goals as goal

pub returns-in-Root : goal.returns-in-Root
returns-in-Root c = is_root c.args.certificate.now.elements c.in-Root.ensures

pub returns-in-Intermediate : goal.returns-in-Intermediate
returns-in-Intermediate c = is_intermediate c.args.certificate.now.elements c.in-Intermediate.ensures

pub returns-in-Leaf : goal.returns-in-Leaf
returns-in-Leaf c = is_leaf c.args.certificate.now.elements c.in-Leaf.ensures

pub returns-in-Unknown : goal.returns-in-Unknown
returns-in-Unknown c = is_unknown c.args.certificate.now.elements c.in-Unknown.ensures
