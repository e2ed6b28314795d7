use Rattle.std.proofs.Common.{◌+◌, ◌*◌, ◌%◌, ◌<◌, arith}
use Rattle.std.proofs.lemmas.List.{nil_from_length}
use Rattle.asn1_types.proofs.Subidentifiers.{one_more, last_one, none_padded, none_too_great, none_cut_short}
use Rattle.asn1_types.proofs.oid.subidentifier.split_subidentifier.Goals.{else-number-eq0-via-then-number-eq0+else-octet, else-number-eq0-via-else-number-eq0}
use Rattle.asn1_types.proofs.oid.subidentifier.split_subidentifier.Goals as goal

pub returns-then-octet : goal.returns-then-octet
returns-then-octet c =
    none_padded c.args.octets.now c.loop-octet.rest.now _ c.loop-octet.number _ c.loop-octet.invariant
    c.in-Some.ensures.cases.0 c.if-number-eq0.true c.if-octet.true

pub returns-then-number-gt-GREATEST_LEADING : goal.returns-then-number-gt-GREATEST_LEADING
returns-then-number-gt-GREATEST_LEADING c =
    none_too_great c.args.octets.now c.loop-octet.rest.now c.loop-octet.number c.loop-octet.invariant (omega arith)

pub returns-then-octet-lt128 : goal.returns-then-octet-lt128
returns-then-octet-lt128 c =
    rw c.from.ensures (
      omega arith,
      last_one c.args.octets.now c.loop-octet.rest.now c.in-Some.after.now c.loop-octet.number c.in-Some.octet.now
          c.loop-octet.invariant c.in-Some.ensures.cases.0 c.if-octet-lt128.true,
    )

pub loop-octet-preserved : goal.loop-octet-preserved
loop-octet-preserved c =
    let positive : 0 < c.loop-octet.number * 128 + c.in-Some.octet.now % 128 = elim c.else-number-eq0.branch [
      | else-number-eq0-via-then-number-eq0+else-octet w ↦ omega arith
      | else-number-eq0-via-else-number-eq0 w ↦ omega arith
    ] in
    rw c.from.ensures (one_more c.args.octets.now c.loop-octet.rest.now c.in-Some.after.now c.loop-octet.number c.in-Some.octet.now
    c.loop-octet.invariant c.in-Some.ensures.cases.0 (omega arith) (omega arith) positive)

pub returns : goal.returns
returns c =
    none_cut_short c.args.octets.now c.loop-octet.rest.now c.loop-octet.number c.loop-octet.invariant
    (nil_from_length c.loop-octet.rest.now c.in_default.ensures.cases)
