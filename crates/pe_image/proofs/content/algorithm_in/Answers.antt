use Rattle.std.proofs.Common.{refl}
use Rattle.cms_types.specs.SignedView.{data_elements}
use Rattle.pe_image.proofs.StatedDigest.{contentless, named_in, of_other_type, unsigned}
use Rattle.pe_image.proofs.content.algorithm_in.Goals as goal

pub returns-in_err-signed_data : goal.returns-in_err-signed_data
returns-in_err-signed_data c = rw c.from_residual.ensures (unsigned c.args.table.now c.in_err-signed_data.ensures)

pub returns-in_err-content : goal.returns-in_err-content
returns-in_err-content c =
    rw c.from_residual-in_err-content.ensures (contentless c.args.table.now (data_elements c.in_ok-signed_data.signed_data)
    c.in_ok-signed_data.ensures c.in_err-content.ensures.0 c.in_err-content.ensures.1)

pub returns-then-not-is_same : goal.returns-then-not-is_same
returns-then-not-is_same c =
    of_other_type c.args.table.now (data_elements c.in_ok-signed_data.signed_data)
    c.in_ok-signed_data.ensures c.content_type.result.now c.content_type.ensures.0 c.content_type.ensures.1
    (λ same. absurd (let t = c.if-not-is_same.ensures.1 same in cc))

pub returns : goal.returns
returns c =
    named_in c.args.table.now (data_elements c.in_ok-signed_data.signed_data)
    c.in_ok-signed_data.ensures c.in_ok-content.ensures.0 c.in_ok-content.content.is.0 c.in_ok-content.ensures.1
    c.in_ok-_image._image.is.0 c.in_ok-_image.digest_info.is.0 c.in_ok-_image.ensures c.in_ok-algorithm.algorithm.is.0 c.in_ok-algorithm._digest.is.0
    c.in_ok-algorithm.ensures
    c.content_type.result.now c.content_type.ensures.0 c.content_type.ensures.1 (c.if-not-is_same.ensures.0 refl) c.digest_named.result c.digest_named.ensures
