use Rattle.std.proofs.Common.{◌∙◌, arith}
use Rattle.sig_core.proofs.Lines.{length-digits-end, take-digits, drop-digits, same_head, parts_joined}
use Rattle.sig_core.proofs.verdict_row.split_digest.Goals as goal

-- the text is too short for a digest
pub returns-in_err-digits : goal.returns-in_err-digits
returns-in_err-digits c =
    rw c.from_residual.ensures (λ digest after h e.
    let long = length-digits-end digest after _ _ h e in
    let short = c.in_err-digits.ensures.cases in
    absurd (omega (arith, long, short)))

-- the text ends with the digits
pub returns-in_err-next : goal.returns-in_err-next
returns-in_err-next c =
    rw c.from_residual-in_err-next.ensures (λ digest after h e.
    let long = length-digits-end digest after _ _ h e in
    let short = c.in_err-next.ensures.cases in
    let part = c.in_ok-digits.ensures.cases in
    absurd (omega (arith, long, short, part.4)))

-- another octet follows the digits
pub returns-then-next-end : goal.returns-then-next-end
returns-then-next-end c digest after h e =
    c.if-next-end.true (same_head _ _ _ _ _ _ c.in_ok-next.ensures.cases.0 c.in_ok-digits.ensures.cases.2
    (drop-digits digest _ _ h e))

-- the digits encode no digest
pub returns-in_err-digest : goal.returns-in_err-digest
returns-in_err-digest c =
    rw c.from_residual-in_err-digest.ensures (λ digest after h e.
    c.in_err-digest.ensures digest h (c.in_ok-digits.ensures.cases.1 ∙ take-digits digest _ _ h e))

pub returns : goal.returns
returns c =
    let part = c.in_ok-digits.ensures.cases in (
      c.in_ok-digest.ensures.0,
      parts_joined _ _ _ _ _ _ _ part.1 part.2 c.in_ok-next.ensures.cases.0 c.if-next-end.false c.in_ok-digest.ensures.1,
    )
