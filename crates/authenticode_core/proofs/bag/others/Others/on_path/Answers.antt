use Rattle.std.proofs.Common.{ℕ, sym, subst}
use Rattle.x509_types.specs.CertificateView.{view_elements}
use Rattle.authenticode_core.specs.IssuerWalk.{IsWalkFrom}
use Rattle.authenticode_core.proofs.WalkedAll.{some_walk, some_others}
use Rattle.authenticode_core.proofs.bag.others.Others.on_path.Goals as goal

pub returns : goal.returns
returns c = λ bag stands first.
    let subject = (view_elements c.args.signer.now).tbs.subject in
    let walk = some_walk bag subject in
    let others = some_others bag subject walk.0 in (
      others.0,
      (walk.0, walk.1, others.1),
      record {
        subject = subject;
        octets = c.subject.ensures;
        given = walk.0;
        gives = record {
          from = c.args.bag.place;
          subject = subject;
          looks = c.new.ensures.looks bag stands;
          walks = subst (λ (from : ℕ). IsWalkFrom bag from subject walk.0) (sym first) walk.1;
        };
        others = others.1;
      },
    )
