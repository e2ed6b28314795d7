use Rattle.std.proofs.Common.{rules}
use Rattle.x509_issuing.specs.RequestInfo.{IsRequestInfo, request_info, inner_request, request_info_octets}
use Rattle.x509_types.specs.Facts.Extensions.{writable_decide}
use Rattle.x509_types.specs.Facts.DeterminedExtensions.{decided_by_octets}
use Rattle.x509_issuing.specs.Facts.Requests.{request_infos, request_infos_by_octets}
use Rattle.x509_issuing.proofs.request_info.CertificationRequestInfoPartialEq.eq.Goals as goal

pub returns-then-eq-2-clause-compared : goal.returns-then-eq-2-clause-compared
returns-then-eq-2-clause-compared c = decided_by_octets request_info_octets request_infos_by_octets c.args.self.now c.args.other.now _ (search rules)

pub returns-then-eq-2-clause-octets : goal.returns-then-eq-2-clause-octets
returns-then-eq-2-clause-octets c = writable_decide IsRequestInfo request_info inner_request request_infos c.args.self.now c.args.other.now _ (search rules)

pub returns-else-eq-2-clause-compared : goal.returns-else-eq-2-clause-compared
returns-else-eq-2-clause-compared c = decided_by_octets request_info_octets request_infos_by_octets c.args.self.now c.args.other.now _ (search rules)

pub returns-else-eq-2-clause-octets : goal.returns-else-eq-2-clause-octets
returns-else-eq-2-clause-octets c = writable_decide IsRequestInfo request_info inner_request request_infos c.args.self.now c.args.other.now _ (search rules)
