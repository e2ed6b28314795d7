use Rattle.cms_content.specs.First.{HoldsOfNoneBefore}
use Rattle.cms_content.specs.Listing.{IsCodeSigning}
use Rattle.cms_content.proofs.listing.attributes.is_for_code_signing.Given as goal

-- none of the purposes so far is code signing
abbrev pub invariant-loop-purpose : goal.invariant-loop-purpose
invariant-loop-purpose l = HoldsOfNoneBefore IsCodeSigning l.purposes l.purpose-index
