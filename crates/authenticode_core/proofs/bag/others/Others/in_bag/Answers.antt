use Rattle.std.proofs.Common.{ℕ, length, sym, ap, arith}
use Rattle.x509_types.specs.CertificateView.{view_elements}
use Rattle.authenticode_core.specs.Excuses.{places_from}
use Rattle.authenticode_core.proofs.WalkedAll.{some_others}
use Rattle.authenticode_core.proofs.bag.others.Others.in_bag.Goals as goal

pub returns : goal.returns
returns c = λ bag stands first.
    let subject = (view_elements c.args.first.now).tbs.subject in
    let given = places_from 0 (length bag) in
    let others = some_others bag subject given in (
      others.0,
      others.1,
      record {
        subject = subject;
        octets = c.subject.ensures;
        given = given;
        gives = record {
          stands = stands;
          count = length bag;
          counted = omega (arith, first);
          are = ap (λ (from : ℕ). places_from from (length bag)) (sym first);
        };
        others = others.1;
      },
    )
