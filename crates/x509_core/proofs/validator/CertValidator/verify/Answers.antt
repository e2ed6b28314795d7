use Rattle.std.proofs.Common.{◌≡◌, IsTrue, false, Option, inl, inr, subst, rules}
use Rattle.std.proofs.lemmas.Result.{err_from_is_err_and}
use Rattle.x509_core.specs.Chain.{YieldsParents}
use Rattle.x509_core.specs.OwnedCertificate.{KeptCertificate}
use Rattle.x509_core.specs.Link.{IsOutside}
use Rattle.x509_core.specs.Rules.{Breaks}
use Rattle.x509_core.specs.Window.{IsWithinWindow}
use Rattle.x509_core.proofs.SameChains.{same_valid, same_refusal, same_chain, same_kind}
use Rattle.x509_core.proofs.Verdicts.{outside, unasked, no_chain, refused_chain, verdict}
use Rattle.x509_core.proofs.Walks.{undated_is_returned, where_asked, unrooted_is_returned, undated, invalid, unlooked, chainless, refused_walk, walk}
use Rattle.x509_core.proofs.validator.CertValidator.verify.Goals as goal

pub returns-in_err-expect_date : goal.returns-in_err-expect_date
returns-in_err-expect_date g c =
    let p = err_from_is_err_and c.from_residual.result c.from_residual.ensures.1 in
    record {
      answer = λ given gives. rw (p.1, p.2) (inl (inl c.in_err-expect_date.ensures));
      walked = rw (p.1, p.2) (undated (g.S.Scheme.judge c.args.scheme.now)
          g.Chain.Iterator.next_gives c.args.self.checks c.args.self.cert.now c.args.self.chain c.in_err-expect_date.field-0.0 c.in_err-expect_date.ensures);
      memory = rw (p.1, p.2) (λ none. absurd (undated_is_returned c.args.self.checks c.in_err-expect_date.field-0.0 c.in_err-expect_date.ensures none));
    }

pub returns-in_err-expect_valid : goal.returns-in_err-expect_valid
returns-in_err-expect_valid g c =
    let p = err_from_is_err_and c.from_residual-in_err-expect_valid.result c.from_residual-in_err-expect_valid.ensures.1 in
    let w = c.args.self.checks.window in
    let e = c.in_err-expect_valid.field-0.0 in
    let broken = subst (λ (kept : KeptCertificate). Breaks (IsOutside w kept) e) c.viewed-checked.ensures c.in_err-expect_valid.ensures.answer in
    let not_valid = subst (λ (kept : KeptCertificate). IsWithinWindow w kept.elements → ⊥) c.viewed-checked.ensures c.in_err-expect_valid.ensures.valid in
    record {
      answer = λ given gives.
          rw (p.1, p.2) (outside (g.S.Scheme.judge c.args.scheme.now) c.args.self.checks c.args.self.cert.now given e c.in_ok-expect_date.ensures broken);
      walked = rw (p.1, p.2) (invalid (g.S.Scheme.judge c.args.scheme.now)
          g.Chain.Iterator.next_gives c.args.self.checks c.args.self.cert.now c.args.self.chain e c.in_ok-expect_date.ensures broken);
      memory = where_asked c.from_residual-in_err-expect_valid.result (c.in_ok-expect_date.ensures, inl not_valid);
    }

pub returns-then-not-checks : goal.returns-then-not-checks
returns-then-not-checks g c =
    let off : c.args.self.checks.chain ≡ false = search rules in
    let valid = same_valid _ _ _ c.viewed-checked.ensures c.in_ok-expect_valid.ensures.answer in
    record {
      answer = λ given gives. unasked (g.S.Scheme.judge c.args.scheme.now) c.args.self.checks c.args.self.cert.now given c.in_ok-expect_date.ensures valid off;
      walked = unlooked (g.S.Scheme.judge c.args.scheme.now) g.Chain.Iterator.next_gives c.args.self.checks c.args.self.cert.now c.in_ok-expect_date.ensures
          valid c.args.self.chain off;
      memory = tt;
    }

pub returns-in_default : goal.returns-in_default
returns-in_default g c =
    let asked : IsTrue c.args.self.checks.chain = search rules in
    let valid = same_valid _ _ _ c.viewed-checked.ensures c.in_ok-expect_valid.ensures.answer in
    record {
      answer = λ given gives.
          let by = subst (λ (chain : Option _). YieldsParents g.Chain.Iterator.next_gives chain given) c.in_default.is (gives asked) in
          no_chain (g.S.Scheme.judge c.args.scheme.now) c.args.self.checks c.args.self.cert.now given c.in_ok-expect_date.ensures valid asked
          g.Chain.Iterator.next_gives by;
      walked = chainless (g.S.Scheme.judge c.args.scheme.now) g.Chain.Iterator.next_gives c.args.self.checks c.args.self.cert.now c.in_ok-expect_date.ensures
          valid asked c.args.self.chain c.in_default.is;
      memory = λ none. absurd cc;
    }

pub returns-in_err-last : goal.returns-in_err-last
returns-in_err-last g c =
    let p = err_from_is_err_and c.from_residual-in_err-last.result c.from_residual-in_err-last.ensures.1 in
    let asked : IsTrue c.args.self.checks.chain = search rules in
    let valid = same_valid _ _ _ c.viewed-checked.ensures c.in_ok-expect_valid.ensures.answer in
    let refused = same_refusal (g.S.Scheme.judge c.args.scheme.now) g.Chain.Iterator.next_gives _ _ _ c.in-Some.chain c.in_err-last.field-0.0
    c.viewed-checked.ensures c.in_err-last.ensures.answer in
    record {
      answer = λ given gives.
          let by = subst (λ (chain : Option _). YieldsParents g.Chain.Iterator.next_gives chain given) c.in-Some.is (gives asked) in
          rw (p.1, p.2)
          (refused_chain (g.S.Scheme.judge c.args.scheme.now) c.args.self.checks c.args.self.cert.now given c.in_ok-expect_date.ensures valid asked
          g.Chain.Iterator.next_gives c.in-Some.chain by c.in_err-last.field-0.0 refused);
      walked =
          rw (p.1, p.2) (refused_walk (g.S.Scheme.judge c.args.scheme.now)
          g.Chain.Iterator.next_gives c.args.self.checks c.args.self.cert.now c.in_ok-expect_date.ensures valid asked
          c.args.self.chain c.in-Some.chain c.in-Some.is c.in_err-last.field-0.0 refused);
      memory = rw (p.1, p.2) (λ none. (
        c.in_ok-expect_date.ensures,
        inr (record { asked = asked; iterator = c.in-Some.chain; is = c.in-Some.is; gives = c.in_err-last.ensures.memory none }),
      ));
    }

pub returns : goal.returns
returns g c =
    let asked : IsTrue c.args.self.checks.chain = search rules in
    let valid = same_valid _ _ _ c.viewed-checked.ensures c.in_ok-expect_valid.ensures.answer in
    let ran = c.in_ok-last.ensures.answer in
    let linked = same_chain (g.S.Scheme.judge c.args.scheme.now) _ _ _ ran.0 c.viewed-checked.ensures ran.2 in
    let kind = same_kind _ _ ran.0 c.in_ok-last.last c.viewed-checked.ensures ran.3 in
    record {
      answer = λ given gives.
          let by = subst (λ (chain : Option _). YieldsParents g.Chain.Iterator.next_gives chain given) c.in-Some.is (gives asked) in
          verdict (g.S.Scheme.judge c.args.scheme.now) c.args.self.checks c.args.self.cert.now given c.in_ok-expect_date.ensures valid asked
          g.Chain.Iterator.next_gives c.in-Some.chain by ran.0 ran.1 linked c.in_ok-last.last c.expect_root.result kind c.expect_root.ensures;
      walked =
          walk (g.S.Scheme.judge c.args.scheme.now) g.Chain.Iterator.next_gives c.args.self.checks c.args.self.cert.now c.in_ok-expect_date.ensures valid asked
          c.args.self.chain c.in-Some.chain c.in-Some.is ran.0 ran.1 c.in_ok-last.last c.expect_root.result linked kind c.expect_root.ensures;
      memory = unrooted_is_returned _ _ _ _ c.expect_root.result c.expect_root.ensures;
    }
