use Rattle.std.proofs.lemmas.Grind.{not_there}
use Rattle.cms_content.proofs.Contents.{by_fields, lies, known_fits}
use Rattle.cms_content.proofs.content_view.ContentView.of_known.Goals as goal

pub unreachable-requires : goal.unreachable-requires
unreachable-requires c = not_there c.requires (λ fit. c.in_default.ensures _ _ fit.1)

pub unreachable-requires-in_default-leaf_at : goal.unreachable-requires-in_default-leaf_at
unreachable-requires-in_default-leaf_at c = not_there c.requires (λ fit. c.in_default-leaf_at.ensures _ (by_fields _ _ _ fit.0 c.in-Some.ensures fit.1).0)

pub invariant_of-result : goal.invariant_of-result
invariant_of-result c = record { fits = known_fits _ _ _ _ c.in-Some.ensures c.in-Some-leaf_at.ensures c.requires }

pub returns : goal.returns
returns c = lies _ _ _ _ c.in-Some.ensures c.in-Some-leaf_at.ensures
