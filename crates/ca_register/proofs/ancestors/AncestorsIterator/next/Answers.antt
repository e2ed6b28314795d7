use Rattle.std.proofs.Common.{◌≡◌, suc, Some, refl, ap, rules, arith, length}
use Rattle.std.proofs.lemmas.Option.{slice_get_read}
use Rattle.ca_register.proofs.AboveCertificates.{one_step}
use Rattle.ca_register.proofs.ancestors.AncestorsIterator.next.Goals as goal

pub returns-clause-steps : goal.returns-clause-steps
returns-clause-steps c =
    let self = c.args.self.now in
    let here : self.issuer ≡ Some c.in_ok-issuer.issuer = search rules in
    let enough : self.most ≡ suc c.in_ok-left.left = search (rules, arith) in
    one_step self.entries.now self.certificates.now self.most c.in_ok-left.left c.in_ok-issuer.issuer self.issuer c.issuer_at-self.result
    c.in_ok-cert.cert.now here
    (slice_get_read self.certificates.now _ c.in_ok-issuer.issuer c.in_ok-cert.cert.now refl (search rules) c.in_ok-cert.ensures.lookup.1)
    enough c.issuer_at-self.ensures

pub returns-clause-goes : goal.returns-clause-goes
returns-clause-goes c = record {
  on = λ finite. (search rules, search rules, omega (arith, ap length (returns-clause-steps c)));
  keeps = search rules;
  rests = λ finite. search rules;
}
