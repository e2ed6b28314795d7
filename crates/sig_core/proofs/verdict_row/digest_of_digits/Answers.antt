use Rattle.std.proofs.Common.{◌≡◌, sym, ◌∙◌, ap, true, false}
use Rattle.std.proofs.lemmas.Slice.Eq.{bytes_eq-Decides}
use Rattle.hex.specs.Hex.{encode_lower}
use Rattle.sig_core.proofs.Lines.{decoded, decoded_back, IsDigest-decoded, no_value, at_value}
use Rattle.sig_core.proofs.verdict_row.digest_of_digits.Goals as goal

-- the digits of a digest are decoded
pub returns-in_err-ok : goal.returns-in_err-ok
returns-in_err-ok c =
    rw c.from_residual.ensures (λ digest h e.
    no_value _ _ c.in_err-ok.was c.ok.ensures.value (decoded _ _ _ digest h e c.decode_to_slice.ensures.value).0)

pub returns-then-eq : goal.returns-then-eq
returns-then-eq c =
    let back = decoded_back c.args.digits.now _ _ _ _ c.in_ok-ok.was c.ok.ensures.value c.decode_to_slice.ensures.value in
    let same = (bytes_eq-Decides c.args.digits.now c.as_slice-2.result.now).0 (sym c.eq.ensures ∙ c.if-eq.true) in
    let spelled = at_value _ _ _ c.in_ok-ok-2.was c.ok-2.ensures.value c.encode_to_slice.ensures.written in
    (IsDigest-decoded c.args.digits.now _ back, same ∙ c.as_slice-2.ensures ∙ spelled ∙ ap encode_lower c.as_slice.ensures)

pub returns-else-eq : goal.returns-else-eq
returns-else-eq c digest h e =
    let d = decoded _ _ _ digest h e c.decode_to_slice.ensures.value in
    let spelled = at_value _ _ _ c.in_ok-ok-2.was c.ok-2.ensures.value c.encode_to_slice.ensures.written in
    let same : c.args.digits.now ≡ c.as_slice-2.result.now =
    e ∙ ap encode_lower (sym d.1 ∙ sym c.as_slice.ensures) ∙ sym spelled ∙ sym c.as_slice-2.ensures in
    let yes = (bytes_eq-Decides c.args.digits.now c.as_slice-2.result.now).1 same in
    let no : true ≡ false = sym yes ∙ sym c.eq.ensures ∙ c.if-eq.false in
    cc no
