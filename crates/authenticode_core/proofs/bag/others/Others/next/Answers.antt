use Rattle.std.proofs.Common.{refl, sym, ◌∙◌, arith}
use Rattle.std.proofs.lemmas.Bool.{iff_false}
use Rattle.x509_types.specs.CertificateView.{view_elements}
use Rattle.authenticode_core.specs.declared.bag.others.Others.{Others}
use Rattle.authenticode_core.proofs.OtherSteps.{passed_over, returned, ended}
use Rattle.authenticode_core.proofs.bag.others.Others.next.Goals as goal

pub returns-then-not-is_same-clause-next : goal.returns-then-not-is_same-clause-next
returns-then-not-is_same-clause-next c = λ bag places left.
    let new : Others = record { source = c.next.new.self; subject = c.loop-next.self.subject } in
    returned c.loop-next.self new bag refl c.in-Some.next.place (view_elements c.in-Some.next.certificate) (λ ps gives. c.in-Some.ensures.next bag ps gives)
    (λ subject octets has. iff_false c.is_same.ensures c.if-not-is_same.true (c.subject.ensures ∙ has ∙ sym octets)) places
    (c.loop-next.invariant.left bag places left)

pub loop-next-preserved : goal.loop-next-preserved
loop-next-preserved c = record {
  left = λ bag places left.
      let new : Others = record { source = c.next.new.self; subject = c.loop-next.self.subject } in
      passed_over c.loop-next.self new bag refl c.in-Some.next.place (view_elements c.in-Some.next.certificate)
      (λ ps gives. c.in-Some.ensures.next bag ps gives)
      (λ subject octets. sym c.subject.ensures ∙ c.is_same.ensures.0 c.if-not-is_same.false ∙ octets) places (c.loop-next.invariant.left bag places left);
  shorter = omega (arith, c.in-Some.ensures.fewer, c.loop-next.invariant.shorter);
}

pub returns-clause-next : goal.returns-clause-next
returns-clause-next c =
    λ bag places left. ended c.loop-next.self bag (λ ps gives. c.in_default.ensures.next bag ps gives) places (c.loop-next.invariant.left bag places left)
