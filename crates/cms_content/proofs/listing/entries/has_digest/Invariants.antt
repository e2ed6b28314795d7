use Rattle.cms_content.specs.Attributes.{IsDigest}
use Rattle.cms_content.specs.First.{HoldsOfNoneBefore}
use Rattle.cms_content.proofs.listing.entries.has_digest.Given as goal

-- none of the attributes so far is the digest
abbrev pub invariant-loop-attribute : goal.invariant-loop-attribute
invariant-loop-attribute l = HoldsOfNoneBefore (IsDigest l.digest) l.attributes l.attribute-index
