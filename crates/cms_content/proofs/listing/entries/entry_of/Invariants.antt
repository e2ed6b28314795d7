use Rattle.cms_content.specs.Attributes.{HasDigest}
use Rattle.cms_content.specs.First.{HoldsOfNoneBefore}
use Rattle.cms_content.proofs.listing.entries.entry_of.Given as goal

-- none of the entries so far has the digest
abbrev pub invariant-loop-entry : goal.invariant-loop-entry
invariant-loop-entry l = HoldsOfNoneBefore (HasDigest l.digest) l.entries l.entry-index
