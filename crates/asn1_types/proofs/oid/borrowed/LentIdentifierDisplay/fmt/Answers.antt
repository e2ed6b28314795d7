use Rattle.std.proofs.Common.{◌∷◌, ◌++◌, true, refl, sym}
use Rattle.std.specs.Fmt.{decimal}
use Rattle.std.proofs.Output.{has_written_append, has_written_of_eq}
use Rattle.asn1_types.specs.ObjectIdentifier.{dot}
use Rattle.asn1_types.proofs.Subidentifiers.{after_shorter}
use Rattle.asn1_types.proofs.Dotted.{printing_begins, printing_goes_on, printing_ends}
use Rattle.asn1_types.proofs.oid.borrowed.LentIdentifierDisplay.fmt.Goals as goal

pub loop-arc-init : goal.loop-arc-init
loop-arc-init g c =
    let identifier = c.args.self.now in
    let arcs = c.first_arcs-first.result in (
      decimal arcs.0 ++ (dot ∷ decimal arcs.1),
      printing_begins identifier.contents.now identifier.formed c.in-Some.root arcs.0 arcs.1 c.in-Some.rest.now
          c.in-Some.ensures.1 c.first_arcs-first.ensures.0 c.first_arcs-first.ensures.1,
      λ plain. c.in_ok-write.ensures.writes plain (refl {a = true}),
    )

pub loop-arc-smaller : goal.loop-arc-smaller
loop-arc-smaller g c =
    after_shorter c.loop-arc.rest.now c.in-Some-split_subidentifier.after.now _ c.in-Some-split_subidentifier.ensures.1

pub loop-arc-preserved : goal.loop-arc-preserved
loop-arc-preserved g c =
    let so_far = c.loop-arc.invariant in
    let arc = c.in-Some-split_subidentifier.arc in (
      so_far.0 ++ (dot ∷ decimal arc),
      printing_goes_on _ so_far.0 c.loop-arc.rest.now c.in-Some-split_subidentifier.after.now arc so_far.1
          c.in-Some-split_subidentifier.ensures.1,
      λ plain. has_written_append _ _ so_far.0 _ _ _ (so_far.2 plain) (c.in_ok-write-2.ensures.writes (so_far.2 plain).plain (refl {a = true})),
    )

pub returns-clause-writes : goal.returns-clause-writes
returns-clause-writes g c =
    λ plain _.
    let so_far = c.loop-arc.invariant in
    has_written_of_eq _ _ _ _ _ (sym (printing_ends _ so_far.0 c.loop-arc.rest.now so_far.1 c.in_default-split_subidentifier.ensures))
    (so_far.2 plain)
