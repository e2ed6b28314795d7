use Rattle.std.proofs.Common.{◌<◌, refl, length, arith}
use Rattle.std.proofs.lemmas.Bool.{iff_false}
use Rattle.std.proofs.lemmas.Option.{slice_get_read}
use Rattle.authenticode_signature.proofs.Namings.{found_at, none_at_all, none_yet, stands_at}
use Rattle.authenticode_signature.proofs.signing_certificate.first_named.Goals as goal

pub returns-then-branch : goal.returns-then-branch
returns-then-branch c =
    let less : c.loop-certificate.certificate-index < length c.args.certificates.now = omega arith in
    found_at c.args.certificates.now _ c.loop-certificate.certificate-index c.certificate-item.result (slice_get_read _ _ _ _ refl less c.certificate-item.is)
    c.loop-certificate.invariant
    (c.in_ok-is_named.ensures.0 c.if-branch.true)

pub loop-certificate-preserved : goal.loop-certificate-preserved
loop-certificate-preserved c =
    let less : c.loop-certificate.certificate-index < length c.args.certificates.now = omega arith in
    none_yet _ _ c.loop-certificate.certificate-index _ c.certificate-item.result.elements (omega arith) c.loop-certificate.invariant
    (stands_at c.args.certificates.now _ c.certificate-item.result (slice_get_read _ _ _ _ refl less c.certificate-item.is))
    (iff_false c.in_ok-is_named.ensures c.if-branch.false)

pub returns : goal.returns
returns c = none_at_all c.args.certificates.now _ c.loop-certificate.certificate-index c.loop-certificate.invariant (omega arith)
