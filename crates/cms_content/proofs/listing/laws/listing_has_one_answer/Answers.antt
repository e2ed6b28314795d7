use Rattle.cms_content.proofs.OneListing.{listed_unbroken, listing_once}
use Rattle.cms_content.proofs.listing.laws.listing_has_one_answer.Goals as goal

pub returns-clause-unbroken : goal.returns-clause-unbroken
returns-clause-unbroken c = listed_unbroken

pub returns-clause-once : goal.returns-clause-once
returns-clause-once c = listing_once
