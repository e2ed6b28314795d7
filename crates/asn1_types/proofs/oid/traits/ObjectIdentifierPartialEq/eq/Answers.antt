use Rattle.std.proofs.Common.{IsTrue, ap, rules}
use Rattle.std.specs.Str.{bytes_eq}
use Rattle.std.proofs.lemmas.Slice.Eq.{bytes_eq-Decides}
use Rattle.asn1_types.proofs.Identifiers.{same_identifier}
use Rattle.asn1_types.proofs.oid.traits.ObjectIdentifierPartialEq.eq.Goals as goal

pub returns-clause-same : goal.returns-clause-same
returns-clause-same c =
    let a = c.args.self.now in
    let b = c.args.other.now in
    let decides = bytes_eq-Decides a.contents b.contents in (
      λ t. let tested : IsTrue (bytes_eq a.contents b.contents) = search rules in same_identifier a b (decides.0 tested),
      λ same. let tested = decides.1 (ap (λ x. x.contents) same) in search rules,
    )
