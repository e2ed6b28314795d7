use Rattle.std.proofs.Common.{◌<◌, ◌≤◌, length, get_or, ap, arith}
use Rattle.asn1_types.proofs.Decimals.{leading_digit, parsed}
use Rattle.asn1_types.proofs.oid.arcs.arc_of.Goals.{else-text-gt1-via-then-text-gt1+else-as_bytes-lt49, else-text-gt1-via-else-text-gt1}
use Rattle.asn1_types.proofs.oid.arcs.arc_of.Goals as goal

pub returns-then-as_bytes-lt49 : goal.returns-then-as_bytes-lt49
returns-then-as_bytes-lt49 c arc bounded printed =
    let long = ap length printed in
    let first = ap (λ t. get_or t 0 0) printed in
    let lead = leading_digit arc bounded (omega arith) in
    let octets = ap (λ t. get_or t 0 0) c.as_bytes.ensures.value in
    absurd (omega arith)

pub returns : goal.returns
returns c =
    let lead : 1 < length c.args.text.now → 49 ≤ get_or c.args.text.now 0 0 = λ long. elim c.else-text-gt1.branch [
      | else-text-gt1-via-then-text-gt1+else-as_bytes-lt49 w ↦
          let octets = ap (λ t. get_or t 0 0) w.as_bytes.ensures.value in omega arith
      | else-text-gt1-via-else-text-gt1 w ↦ absurd (omega arith)
    ] in
    parsed c.args.text.now c.parse.result c.ok.result c.parse.ensures.value.0 lead c.ok.ensures.value
