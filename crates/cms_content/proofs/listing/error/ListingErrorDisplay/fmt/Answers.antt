use Rattle.std.proofs.Common.{append_assoc}
use Rattle.cms_content.proofs.listing.error.ListingErrorDisplay.fmt.Goals as goal

pub returns-in-Expired-clause-writes : goal.returns-in-Expired-clause-writes
returns-in-Expired-clause-writes g c plain ok =
    rw c.in-Expired.is (simp append_assoc (c.write-in-Expired.ensures.writes plain ok))

pub returns-in-NotYetValid-clause-writes : goal.returns-in-NotYetValid-clause-writes
returns-in-NotYetValid-clause-writes g c plain ok =
    rw c.in-NotYetValid.is (simp append_assoc (c.write-in-NotYetValid.ensures.writes plain ok))
