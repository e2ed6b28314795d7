use Rattle.cms_content.specs.Attributes.{IsOfKind}
use Rattle.cms_content.specs.First.{HoldsOfNoneBefore}
use Rattle.cms_content.proofs.listing.attributes.first_of.Given as goal

-- none of the attributes so far is of the kind
abbrev pub invariant-loop-attribute : goal.invariant-loop-attribute
invariant-loop-attribute l = HoldsOfNoneBefore (IsOfKind l.kind) l.attributes l.attribute-index
