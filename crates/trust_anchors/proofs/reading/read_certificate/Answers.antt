use Rattle.trust_anchors.proofs.ReadFiles.{unread_one}
use Rattle.trust_anchors.proofs.reading.read_certificate.Goals as goal

pub returns-in-Err-clause-unread : goal.returns-in-Err-clause-unread
returns-in-Err-clause-unread c = unread_one c.args.octets.now c.in-Err.error c.cause_of.result c.in-Err.ensures.answer c.cause_of.ensures
