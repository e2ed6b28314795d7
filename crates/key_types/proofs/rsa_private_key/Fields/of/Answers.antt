use Rattle.std.proofs.Common.{rules, ◌≡◌, ◌∙◌}
use Rattle.key_types.specs.RsaPrivateKey.{rsa_private_key_of}
use Rattle.key_types.specs.declared.rsa_private_key.RsaPrivateKey.{RsaPrivateKey}
use Rattle.key_types.proofs.rsa_private_key.Fields.of.Goals as goal

pub returns : goal.returns
returns c =
    let is : c.args.elem.is.0 ≡ rsa_private_key_of (record {
      n = c.in_ok-n.n.is.0;
      e = c.in_ok-e.e.is.0;
      d = c.in_ok-d.d.is.0;
      p = c.in_ok-p.p.is.0;
      q = c.in_ok-q.q.is.0;
      dp = c.in_ok-dp.dp.is.0;
      dq = c.in_ok-dq.dq.is.0;
      qinv = c.in_ok-qinv.qinv.is.0;
    }) = search rules in
    let fields : RsaPrivateKey = record {
      n = c.in_ok-n.ensures.1.0;
      e = c.in_ok-e.ensures.1.0;
      d = c.in_ok-d.ensures.1.0;
      p = c.in_ok-p.ensures.1.0;
      q = c.in_ok-q.ensures.1.0;
      dp = c.in_ok-dp.ensures.1.0;
      dq = c.in_ok-dq.ensures.1.0;
      qinv = c.in_ok-qinv.ensures.1.0;
    } in (
      is,
      (
        fields,
        is ∙ (λ i. rsa_private_key_of (record {
          n = c.in_ok-n.ensures.1.1 i;
          e = c.in_ok-e.ensures.1.1 i;
          d = c.in_ok-d.ensures.1.1 i;
          p = c.in_ok-p.ensures.1.1 i;
          q = c.in_ok-q.ensures.1.1 i;
          dp = c.in_ok-dp.ensures.1.1 i;
          dq = c.in_ok-dq.ensures.1.1 i;
          qinv = c.in_ok-qinv.ensures.1.1 i;
        })),
      ),
    )
