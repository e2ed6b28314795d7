use Rattle.std.proofs.Common.{◌≡◌, ◌↔◌, IsTrue, Bool, refl, rules}
use Rattle.der_core.specs.Equality.{same_octets}
use Rattle.der_core.specs.Facts.Equality.{octets_decide}
use Rattle.cms_content.specs.TimestampRequest.{timestamp_request}
use Rattle.cms_content.specs.Facts.TimestampRequests.{timestamp_requests}
use Rattle.cms_content.specs.declared.timestamp_request.TimestampRequest.{TimestampRequest}
use Rattle.cms_content.proofs.timestamp_request.TimestampRequestPartialEq.eq.Goals as goal

by_octets : (a b : TimestampRequest) (test : Bool) → (IsTrue test ↔ (a ≡ b)) → test ≡ same_octets timestamp_request a b
by_octets = octets_decide timestamp_request (λ a b e. timestamp_requests.once (timestamp_request a) a b refl e) timestamp_requests.formed

pub returns-then-eq-clause-octets : goal.returns-then-eq-clause-octets
returns-then-eq-clause-octets c = by_octets c.args.self.now c.args.other.now _ (search rules)

pub returns-else-eq-clause-octets : goal.returns-else-eq-clause-octets
returns-else-eq-clause-octets c = by_octets c.args.self.now c.args.other.now _ (search rules)
