use Rattle.std.proofs.Common.{◌≡◌, inl, inr, refl, sym, subst, ◌∙◌}
use Rattle.x509_core.specs.CertType.{IsOfType}
use Rattle.x509_core.specs.declared.cert_type.CertType.{CertType}
use Rattle.x509_types.specs.CertificateView.{view_elements}
use Rattle.authenticode_core.proofs.LastAuthority.{leaf_is_none, unknown_is_none}
use Rattle.authenticode_core.proofs.authority.next_name.Goals as goal

pub returns-in-Root : goal.returns-in-Root
returns-in-Root c = λ before is.
    let e = view_elements c.args.certificate in
    (e.tbs.subject, inl (inr (subst (λ (t : CertType). IsOfType e t) c.in-Root.is c.of.ensures, refl)), c.subject.ensures)

pub returns-in-Intermediate : goal.returns-in-Intermediate
returns-in-Intermediate c = λ before is.
    let e = view_elements c.args.certificate in
    (e.tbs.issuer, inl (inl (subst (λ (t : CertType). IsOfType e t) c.in-Intermediate.is c.of.ensures, refl)), c.issuer.ensures)

pub returns-in-Leaf : goal.returns-in-Leaf
returns-in-Leaf c = λ before is.
    let e = view_elements c.args.certificate in
    let of = λ (t : CertType) (is : c.of.result ≡ t). subst (λ (t : CertType). IsOfType e t) is c.of.ensures in
    (before, inr (elim c.in-Leaf.is [ inl leaf ↦ leaf_is_none e (of _ leaf) | inr unknown ↦ unknown_is_none e (of _ unknown) ], refl), is)
