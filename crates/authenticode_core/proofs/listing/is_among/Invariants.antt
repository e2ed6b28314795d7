use Rattle.name_types.specs.Name.{name}
use Rattle.names_core.specs.Names.{sets_of}
use Rattle.cms_content.specs.First.{HoldsOfNoneBefore}
use Rattle.authenticode_core.specs.ListRules.{IsNamed}
use Rattle.authenticode_core.proofs.listing.is_among.Given as goal

-- none of the names so far is this one
abbrev pub invariant-loop-one : goal.invariant-loop-one
invariant-loop-one l = HoldsOfNoneBefore (IsNamed (name (sets_of l.asked))) l.names l.one-index
