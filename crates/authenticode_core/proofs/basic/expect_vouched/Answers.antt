use Rattle.std.proofs.Common.{refl}
use Rattle.cms_types.specs.SignedView.{data_elements}
use Rattle.authenticode_core.proofs.BasicOrder.{vouched_or_not}
use Rattle.authenticode_core.proofs.basic.expect_vouched.Goals as goal

pub returns : goal.returns
returns g c =
    vouched_or_not (g.S.Scheme.judge c.args.scheme.now) (data_elements c.args.signed_data.now) c.args.form.now c.args.file_hash.now c.requires
    (c.if-not-is_same.ensures.0 refl) c.expect_signed.result
    (c.expect_signed.ensures c.requires.d c.requires.content.is)
