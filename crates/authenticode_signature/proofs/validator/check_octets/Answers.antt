use Rattle.authenticode_signature.proofs.Verdicts.{answered_of, broken_there, lies_there}
use Rattle.authenticode_signature.specs.Pkcs7.{written}
use Rattle.authenticode_signature.proofs.validator.check_octets.Goals as goal

pub unreachable-requires : goal.unreachable-requires
unreachable-requires g c = c.in_default.ensures (written c.requires.0) c.requires.1

pub unreachable-requires-in_default-read : goal.unreachable-requires-in_default-read
unreachable-requires-in_default-read g c =
    c.in_default-read.ensures c.requires.0.signed (lies_there c.args.octets.now c.in-Some.elem.is.0 c.requires.0 c.in-Some.ensures c.requires.1)

pub check_signed_data-requires : goal.check_signed_data-requires
check_signed_data-requires g c = (c.in-Some.elem.is.0, c.in-Some-read.ensures)

pub returns-clause-answer : goal.returns-clause-answer
returns-clause-answer g c = λ signed kept.
    answered_of c.args.octets.now c.in-Some.elem.is.0 c.in-Some-read.signed_data signed c.in-Some.ensures c.in-Some-read.ensures kept
    (g.S.Scheme.judge c.args.scheme.now) c.args.policy.now c.check_signed_data.result c.check_signed_data.ensures.answer

pub returns-clause-shape : goal.returns-clause-shape
returns-clause-shape g c = λ signed kept e broken.
    c.check_signed_data.ensures.shape e (broken_there c.args.octets.now c.in-Some.elem.is.0 c.in-Some-read.signed_data signed c.in-Some.ensures
    c.in-Some-read.ensures kept c.args.policy.now e broken)
